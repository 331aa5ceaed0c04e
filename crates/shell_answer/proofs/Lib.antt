pub mod Visits
pub mod Telling
pub mod Opening
pub mod Whole
pub mod Theorems
