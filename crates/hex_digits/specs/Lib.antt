pub mod Digits
pub mod Worth
