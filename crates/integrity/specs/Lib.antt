pub mod Tests
pub mod Names
pub mod Index
pub mod Records
pub mod Check
pub mod Held
pub mod Claims
