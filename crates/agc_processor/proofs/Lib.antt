pub mod Orderly
pub mod Keeps
pub mod Fixed
pub mod Timed
mod Extends
mod Returns
mod Steps
mod Pairs
mod Frame
mod Still
pub mod Rows
mod First
pub mod Contexts
