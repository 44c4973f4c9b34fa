pub mod Clauses
pub mod Folds
pub mod Loops
