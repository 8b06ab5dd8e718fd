pub mod Bit
pub mod Bits
pub mod Planes
pub mod Digits
pub mod Back
pub mod Inside
