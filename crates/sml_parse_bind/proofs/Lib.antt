pub mod Rows
pub mod Steps
pub mod Nodes
pub mod Hands
pub mod Seen
pub mod Heads
