mod Example
pub mod Noting
pub mod Providing
