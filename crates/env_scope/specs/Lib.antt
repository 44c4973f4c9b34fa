pub mod Index
pub mod Numbers
pub mod Scopes
