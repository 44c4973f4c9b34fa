pub mod Words
pub mod Tokens
pub mod Types
pub mod ReadTypes
pub mod Pats
pub mod ReadPats
pub mod Promise
