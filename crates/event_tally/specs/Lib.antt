pub mod Targets
pub mod Tallies
pub mod Given
