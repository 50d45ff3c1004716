pub mod Denied
pub mod There
pub mod Reported
