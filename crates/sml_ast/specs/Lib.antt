pub mod Heights
pub mod Parts
pub mod Rows
