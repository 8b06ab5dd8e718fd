mod Examples
pub mod Written
pub mod Splitting
