pub mod Entries
pub mod Faults
pub mod Finding
pub mod Loading
pub mod ModeNames
