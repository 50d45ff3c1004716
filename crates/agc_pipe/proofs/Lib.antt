pub mod Takes
mod Sends
mod Taking
mod Lives
