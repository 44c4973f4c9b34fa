pub mod Descs
pub mod ReadDescs
pub mod Sigs
pub mod ReadSigs
