pub mod Examples
pub mod TreeGenvars
