pub mod Bytes
pub mod Eights
pub mod Words
