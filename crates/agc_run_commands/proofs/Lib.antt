pub mod Pairs
pub mod Status
pub mod FilmedRuns
