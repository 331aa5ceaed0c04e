pub mod Operations
pub mod Updating
