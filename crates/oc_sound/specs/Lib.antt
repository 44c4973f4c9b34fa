pub mod Words
pub mod Secure
pub mod Meant
pub mod Served
pub mod Rows
pub mod Examples
pub mod Clear
