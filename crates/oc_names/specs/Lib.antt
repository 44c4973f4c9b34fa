pub mod Mangled
