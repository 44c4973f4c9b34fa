pub mod Trees
pub mod Clauses
pub mod Levels
pub mod Nested
