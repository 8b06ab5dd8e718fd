mod Example
pub mod Below
pub mod Codes
pub mod Lists
pub mod Rules
