pub mod Joined
pub mod Locations
pub mod NamedList
pub mod ReadFile
pub mod RopeRead
pub mod Started
pub mod Until
