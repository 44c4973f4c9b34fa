pub mod Names
pub mod Over
pub mod Paths
pub mod Settled
pub mod Spelling
