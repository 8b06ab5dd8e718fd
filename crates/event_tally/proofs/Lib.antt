pub mod Tallying
pub mod Lengths
pub mod Places
pub mod Counting
