pub use Rattle.agc_cli.specs.ParseArgs
pub mod Report
pub mod Text
pub mod Print
pub mod Entry
