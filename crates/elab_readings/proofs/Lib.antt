pub mod Borrowed
mod Examples
pub mod Steps
pub mod Unsigned
