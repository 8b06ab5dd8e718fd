pub mod Agreement
mod Example
pub mod Inside
pub mod Kept
pub mod Lengths
pub mod Made
pub mod Steady
pub mod Unheard
pub mod Alike
mod BodyExample
pub mod Laws
pub mod Once
pub mod OneLevel
pub mod OneRun
pub mod Sizes
pub mod Sure
pub mod Targets
pub mod Traced
pub mod Within
pub mod Written
