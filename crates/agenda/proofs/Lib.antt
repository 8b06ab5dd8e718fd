pub mod Order
pub mod Distinct
pub mod Sorted
pub mod Kept
pub mod Law
