mod Reached
mod Splits
mod Stops
pub mod Verdicts
