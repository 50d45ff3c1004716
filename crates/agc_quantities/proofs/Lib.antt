pub mod Cells
pub mod Walk
