pub mod Calls
pub mod Reasons
pub mod Verbs
pub mod Words
