pub use Rattle.agc_ring.specs.Item
pub use Rattle.agc_ring.specs.Items
pub use Rattle.agc_ring.specs.Ring
pub mod Display
pub mod Shown
pub mod Keys
pub mod Live
