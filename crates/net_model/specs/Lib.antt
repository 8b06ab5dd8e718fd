pub mod Block
pub mod Control
pub mod Cycle
pub mod Gates
pub mod Lawful
pub mod Numbers
pub mod Solution
