pub mod Standard
pub mod Grammar
pub mod TermOf
pub mod Reader
pub mod Claims
pub mod Subset
pub mod Productions
