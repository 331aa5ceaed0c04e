pub mod NameBytes
pub mod HeadBytes
pub mod RestOrder
pub mod LineOrder
