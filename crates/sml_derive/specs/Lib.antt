pub mod Programs
pub mod Signatures
