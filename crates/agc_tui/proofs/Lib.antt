pub mod Folds
pub mod Fits
pub mod Operators
