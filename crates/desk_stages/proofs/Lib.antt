pub mod Lengths
mod Example
