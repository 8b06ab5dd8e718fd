mod Example
mod FirstGrade
pub mod Indexed
mod Keys
pub mod Kept
pub mod Least
pub mod Loops
mod ReachExample
pub mod Room
pub mod Subjects
