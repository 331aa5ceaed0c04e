pub mod Branches
pub mod Capacity
pub mod Held
pub mod Zero
pub mod Stores
