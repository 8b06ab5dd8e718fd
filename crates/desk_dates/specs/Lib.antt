pub mod Dates
pub mod Made
pub mod Reading
