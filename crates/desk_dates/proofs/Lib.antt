pub mod Turns
pub mod Months
mod Example
