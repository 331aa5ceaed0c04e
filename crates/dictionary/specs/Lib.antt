pub mod Search
pub mod Extend
