pub mod Channels
pub mod Printed
pub mod Refused
pub mod Taped
