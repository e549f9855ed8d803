pub mod Lanes
pub mod Xtea
pub mod Cycles
