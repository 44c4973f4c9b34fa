pub mod Labels
pub mod Types
pub mod Equality
pub mod Schemes
pub mod Lookups
pub mod WellFormed
pub mod Shapes
pub mod Exhaustive
