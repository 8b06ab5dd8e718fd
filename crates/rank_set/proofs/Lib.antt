pub mod Bits
pub mod Counts
pub mod Views
pub mod Law
