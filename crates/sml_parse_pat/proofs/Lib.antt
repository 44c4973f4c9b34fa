pub mod Ready
pub mod Steps
pub mod RowSteps
pub mod Taken
pub mod Rooms
pub mod Parts
pub mod Whole
