pub mod Answers
pub mod Calls
pub mod Lines
pub mod Performed
pub mod State
pub mod Tallies
pub mod Texts
pub mod Views
