pub mod Increasing
pub mod Find
