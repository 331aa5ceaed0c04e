pub mod Counting
mod Digits
