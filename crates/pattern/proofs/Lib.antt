pub mod WordLaws
pub mod Matches
