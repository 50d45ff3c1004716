pub mod MnemonicCheck
pub mod ListingReport
