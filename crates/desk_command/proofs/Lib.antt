pub mod Sourced
pub mod Started
pub mod Served
pub mod Told
pub mod Commanded
mod Causes
mod Few
mod Headlines
mod Statuses
