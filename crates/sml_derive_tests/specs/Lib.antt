pub mod Modules
pub mod Phrases
