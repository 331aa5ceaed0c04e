pub mod Unlinking
pub mod Sweeping
