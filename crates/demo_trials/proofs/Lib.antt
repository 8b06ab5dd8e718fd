mod Examples
pub mod Demos
pub mod Fitting
pub mod Known
pub mod Sorts
