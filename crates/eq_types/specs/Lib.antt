pub mod Premises
pub mod Rows
