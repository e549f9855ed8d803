pub mod Filling
pub mod Maps
pub mod Turns
