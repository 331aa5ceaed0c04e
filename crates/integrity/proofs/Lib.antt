pub mod Ranges
pub mod Linking
pub mod Text
pub mod Rising
pub mod Once
pub mod Decides
pub mod Scanning
pub mod Walking
