pub mod Causes
pub mod Filling
pub mod Looking
pub mod Meaning
pub mod Places
pub mod Soundness
