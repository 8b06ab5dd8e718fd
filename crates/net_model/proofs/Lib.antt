mod Clocks
mod Examples
pub mod Gates
