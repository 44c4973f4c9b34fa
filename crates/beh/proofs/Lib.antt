pub mod Matching
pub mod Prefix
