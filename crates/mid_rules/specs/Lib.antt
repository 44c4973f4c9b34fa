pub mod Names
pub mod Basis
pub mod Core
pub mod Untyped
pub mod Erased
pub mod Units
pub mod Mid
pub mod Examples
