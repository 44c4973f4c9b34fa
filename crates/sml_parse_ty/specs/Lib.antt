pub mod Rows
pub mod Promise
