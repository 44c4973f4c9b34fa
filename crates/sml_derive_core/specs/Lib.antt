pub mod Bindings
pub mod Names
pub mod Patterns
pub mod Types
pub mod Withtype
