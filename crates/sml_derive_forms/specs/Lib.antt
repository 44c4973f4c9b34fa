pub mod Datatypes
pub mod Expressions
pub mod Functions
