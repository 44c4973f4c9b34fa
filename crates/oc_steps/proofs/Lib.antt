pub mod Viewed
pub mod Texts
pub mod SmallTexts
pub mod Differs
pub mod Endless
pub mod Generalised
