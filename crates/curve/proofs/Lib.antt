pub mod Deciding
pub mod Finding
pub mod Lines
pub mod Neighbours
pub mod Points
pub mod Windows
