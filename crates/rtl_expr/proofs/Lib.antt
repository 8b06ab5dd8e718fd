pub mod Indices
pub mod Parts
