pub mod Places
pub mod Memory
pub mod Cells
pub mod Registers
pub mod Rope
pub mod RopeFile
