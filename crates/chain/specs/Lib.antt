pub mod Chains
pub mod Planned
pub mod Plans
