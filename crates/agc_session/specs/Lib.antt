pub mod Session
pub mod Checkpoints
pub mod Arguments
pub mod Calls
pub mod Comparison
pub mod Condition
pub mod Search
