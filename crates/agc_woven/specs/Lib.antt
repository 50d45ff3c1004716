pub mod Follow
pub mod Sums
