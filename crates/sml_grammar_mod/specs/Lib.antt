pub mod Strs
pub mod ReadStrs
pub mod Programs
pub mod ReadPrograms
