pub mod Cmac
pub mod Formulas
pub mod Layout
pub mod Names
pub mod Runs
pub mod Texts
