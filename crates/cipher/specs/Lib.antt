pub mod Blocks
pub mod Bytes
pub mod Keys
pub mod Rounds
pub mod Words
pub mod Inverses
pub mod Cases
