pub mod Blowfish
pub mod Pi
pub mod Schedule
pub mod Feistel
