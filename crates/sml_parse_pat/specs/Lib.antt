pub mod Rows
pub mod Nested
pub mod Levels
pub mod Promise
