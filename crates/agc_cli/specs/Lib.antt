pub mod Exit
pub mod Mistakes
pub mod Parameters
pub mod Values
pub mod ParseArgs
