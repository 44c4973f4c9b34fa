pub mod Command
pub mod Complete
pub mod Lines
pub mod Listing
pub mod Outcome
pub mod Status
pub mod Telling
pub mod Translating
