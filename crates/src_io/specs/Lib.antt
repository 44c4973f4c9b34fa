pub mod Counted
pub mod Faults
pub mod Holding
pub mod Memory
pub mod Reading
pub mod Written
