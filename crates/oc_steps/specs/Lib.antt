pub mod Known
pub mod Operators
pub mod View
pub mod OcSteps
pub mod Ordered
pub mod Examples
