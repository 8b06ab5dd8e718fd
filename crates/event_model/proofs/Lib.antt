pub mod Active
pub mod Choices
mod Example
pub mod Runs
mod Wires
