pub mod Behaviour
pub mod View
pub mod Agree
