pub mod Lengths
pub mod MovedCursor
pub mod Writes
pub mod QueryWrites
