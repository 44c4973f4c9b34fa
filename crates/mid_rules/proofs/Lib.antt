pub mod Meanings
pub mod RowsMean
pub mod Quotients
pub mod SmallUnits
