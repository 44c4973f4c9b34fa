pub mod Copies
pub mod Heights
pub mod Exact
pub mod Refused
pub mod Loops
pub mod Whole
