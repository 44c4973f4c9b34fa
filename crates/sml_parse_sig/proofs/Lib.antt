pub mod Steps
pub mod Guards
pub mod Tracked
pub mod Chains
pub mod Items
pub mod Turns
pub mod Hands
