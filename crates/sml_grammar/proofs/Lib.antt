pub mod Sets
pub mod Shapes
pub mod Joined
pub mod Types
pub mod Pats
pub mod Whole
pub mod Examples
