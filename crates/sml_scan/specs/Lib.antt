pub mod Classes
pub mod Rows
pub mod Fixed
pub mod Faults
