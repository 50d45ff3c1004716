pub mod Flash
pub mod Keyboard
pub mod Pace
pub mod Fold
pub mod History
pub mod Search
pub mod Operator
