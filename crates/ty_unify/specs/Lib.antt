pub mod Trees
pub mod Cells
pub mod Steps
pub mod Walking
pub mod Stores
pub mod Building
pub mod Formed
pub mod Reading
