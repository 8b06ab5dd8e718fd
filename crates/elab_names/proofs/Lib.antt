mod Agreeing
mod Ascending
pub mod Asking
mod Example
mod Extracting
mod Finding
mod Holding
mod Making
mod Mapping
mod Moving
mod Naming
mod Numbering
mod Running
mod Staying
