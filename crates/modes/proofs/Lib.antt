pub mod Back
pub mod Joins
pub mod Marks
pub mod Pieces
pub mod SideBySide
