pub mod Cut
pub mod LabelWords
pub mod Naming
pub mod Nearest
pub mod Tokens
