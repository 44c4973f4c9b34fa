pub mod Complete
pub mod Listing
pub mod Running
pub mod Translating
