pub mod Spelling
pub mod WordLaws
pub mod Meaning
pub mod Theorems
pub mod Examples
