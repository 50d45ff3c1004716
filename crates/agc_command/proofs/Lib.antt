pub mod Ascii
pub mod Nearby
