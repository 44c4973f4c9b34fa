pub mod After
pub mod First
pub mod Folds
