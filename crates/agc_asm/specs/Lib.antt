pub mod FaultText
pub mod Source
pub mod NameLines
pub mod Channels
pub mod Laws
pub mod OrderLines
pub mod FirstFault
pub mod FaultPlace
