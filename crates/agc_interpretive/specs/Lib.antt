pub mod Operand
pub mod Operation
pub mod Jump
pub mod Words
pub mod Pending
pub mod FaultText
