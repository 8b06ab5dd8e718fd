pub mod Cuts
pub mod Files
pub mod Fitting
pub mod Lines
pub mod Marks
pub mod Names
pub mod Steps
pub mod Values
