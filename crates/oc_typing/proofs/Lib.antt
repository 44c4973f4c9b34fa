pub mod Lookups
pub mod Weaken
pub mod Grows
pub mod Typed
pub mod TypedTypes
pub mod Untyped
