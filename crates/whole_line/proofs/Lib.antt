pub mod NewNames
pub mod LineParts
pub mod RoomMeans
pub mod Whole
pub mod Exactly
pub mod Theorems
