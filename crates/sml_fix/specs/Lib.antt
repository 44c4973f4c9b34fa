pub mod Fixities
pub mod Grouping
pub mod Reading
pub mod Resolution
