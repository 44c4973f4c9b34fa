pub mod Gathering
pub mod Joining
pub mod Levels
pub mod Over
pub mod Places
pub mod Rows
