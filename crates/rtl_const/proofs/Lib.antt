pub mod Example
pub mod Powers
pub mod Ranges
pub mod Shifts
