pub mod Jump
pub mod Woven
pub mod Kept
pub mod RopeWords
pub mod BankOrder
pub mod Laws
