pub mod Matches
pub mod CommandLine
