pub mod Alias
pub mod Body
pub mod Numeral
pub mod Name
pub mod Mnemonic
pub mod FaultText
