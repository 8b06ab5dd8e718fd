pub mod Cutting
pub mod Digits
pub mod Fitting
pub mod Reading
pub mod Widths
pub mod Written
