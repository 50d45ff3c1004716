pub mod Resolved
pub mod RopeReads
pub mod Starts
pub mod StopRead
pub mod Tables
mod NamedLines
mod SureLocation
