pub mod Bindings
pub mod Breaches
pub mod Patterns
pub mod Repeats
pub mod Types
