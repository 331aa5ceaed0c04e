pub mod Lists
pub mod Lines
pub mod Merges
pub mod Turns
pub mod Parts
pub mod Laws
