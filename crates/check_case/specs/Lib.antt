pub mod Cases
pub mod Claims
pub mod Least
pub mod Literals
