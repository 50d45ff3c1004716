pub mod Whole
pub mod Begun
