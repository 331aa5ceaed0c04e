pub mod Ends
pub mod Commands
pub mod Questions
pub mod Claims
