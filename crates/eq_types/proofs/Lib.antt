pub mod Monotone
pub mod Rows
