pub mod Folds
pub mod Modules
pub mod Scopes
