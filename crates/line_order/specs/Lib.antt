pub mod Rests
pub mod Heads
