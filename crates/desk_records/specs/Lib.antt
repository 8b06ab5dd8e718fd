pub mod Outcomes
pub mod Machine
pub mod Repeats
pub mod Room
