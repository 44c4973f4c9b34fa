pub mod Rows
pub mod Cores
pub mod Modules
pub mod Refusals
