pub mod AllKeys
pub mod Numbered
pub mod Placed
pub mod VectorTexts
