pub mod Sheet
pub mod Layout
