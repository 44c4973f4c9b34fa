pub mod Bytes
pub mod Token
pub mod Lexes
pub mod Tokens
pub mod Allowed
pub mod Reads
pub mod Values
