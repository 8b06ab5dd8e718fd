pub mod Limits
pub mod Sources
pub mod Shown
