mod Example
pub mod Amounts
pub mod Once
pub mod Telling
