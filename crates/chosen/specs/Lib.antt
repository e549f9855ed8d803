pub mod Kinds
pub mod Meanings
pub mod Laws
