pub mod Words
pub mod Calls
pub mod Claims
pub mod QueryWords
pub mod QueryCalls
