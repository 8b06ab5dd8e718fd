mod Example
pub mod Among
pub mod Kepts
pub mod Places
mod ReadingsExample
pub mod Exchanged
pub mod Found
pub mod Known
pub mod MadeReadings
pub mod Placed
pub mod Put
pub mod Read
pub mod Told
