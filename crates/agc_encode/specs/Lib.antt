pub mod Row
pub mod LocationCounter
pub mod Operand
pub mod LineKind
pub mod Interpretive
pub mod Encode
pub mod UnknownOperation
pub mod Disassemble
