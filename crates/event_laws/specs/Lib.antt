pub mod Steady
pub mod Laws
pub mod Once
