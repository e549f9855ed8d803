pub mod Answers
pub mod Curves
pub mod Laws
