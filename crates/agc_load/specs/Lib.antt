pub mod Keys
pub mod Options
pub mod Fault
pub mod Steps
pub mod Files
pub mod Prepare
