pub mod Counts
pub mod Moved
pub mod Openings
