pub mod Demos
pub mod Draws
pub mod Fitting
pub mod Steps
pub mod Trials
