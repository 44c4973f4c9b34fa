pub mod Bits
pub mod Forks
pub mod Parts
pub mod Rows
pub mod Ways
