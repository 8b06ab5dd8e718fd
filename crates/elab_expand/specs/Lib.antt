pub mod Expansions
pub mod Lifting
pub mod Openings
pub mod Scoping
pub mod Tallies
pub mod Told
