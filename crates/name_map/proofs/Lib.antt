mod Example
pub mod Numbers
pub mod Reading
pub mod Written
