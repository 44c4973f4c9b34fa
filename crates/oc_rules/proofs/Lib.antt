pub mod Tests
pub mod Literals
pub mod RunKinds
pub mod Longest
pub mod Lexing
