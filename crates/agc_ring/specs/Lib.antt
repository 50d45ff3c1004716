pub mod Item
pub mod Items
pub mod Ring
