pub mod Calling
pub mod Changes
pub mod Filling
pub mod Fresh
pub mod Held
pub mod Laws
pub mod Looking
pub mod Uses
