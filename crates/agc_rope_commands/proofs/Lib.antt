mod ListTexts
pub mod Whole
