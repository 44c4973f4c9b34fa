pub mod Sets
pub mod Rows
pub mod Grown
pub mod Shorter
pub mod Places
pub mod Infix
