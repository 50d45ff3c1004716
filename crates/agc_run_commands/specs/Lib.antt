pub mod Fault
pub mod Pairs
pub mod Compared
pub mod Filmed
pub mod Traced
pub mod Counted
pub mod Watched
pub mod Ended
