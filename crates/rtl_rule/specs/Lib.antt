pub mod Rows
pub mod Order
pub mod Keys
pub mod Sites
pub mod Parts
