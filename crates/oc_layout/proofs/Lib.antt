pub mod Spelled
pub mod Ready
pub mod Shapes
pub mod Trees
pub mod Examples
