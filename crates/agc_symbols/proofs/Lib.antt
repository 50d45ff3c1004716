mod Lines
mod Firsts
pub mod Nearests
mod PlaceRead
pub mod NamesRead
mod Refused
pub mod LeastPlace
