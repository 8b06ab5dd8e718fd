mod Example
pub mod Accepted
pub mod Fills
pub mod Holding
pub mod Others
pub mod Repeats
