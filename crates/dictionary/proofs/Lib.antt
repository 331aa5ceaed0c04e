pub mod Steps
pub mod Writes
pub mod Named
pub mod Answers
