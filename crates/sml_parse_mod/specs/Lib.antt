pub mod Trees
pub mod Levels
pub mod Nested
pub mod Late
pub mod Promise
pub mod Follows
pub mod Params
