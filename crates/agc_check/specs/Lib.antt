pub mod Holdings
pub mod KeyReport
pub mod Report
pub mod RopeReport
pub mod Vectors
