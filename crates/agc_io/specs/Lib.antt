pub mod Input
pub mod Mark
pub mod Output
