pub mod Sense
pub mod Telling
