pub mod Patterns
pub mod Stands
pub mod Turns
