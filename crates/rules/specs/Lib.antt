pub mod Bundles
pub mod Calls
pub mod Laws
pub mod Parcels
pub mod Registers
pub mod Runs
