pub mod Operators
pub mod Levels
pub mod Rows
pub mod Heads
