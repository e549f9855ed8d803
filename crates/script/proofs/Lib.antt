pub mod ByteWords
pub mod Cutting
pub mod Misreading
