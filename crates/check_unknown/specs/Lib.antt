pub mod Doubts
pub mod Lists
pub mod Parts
pub mod Spreading
pub mod Unknowns
-- passed on to the crates above
pub use Rattle.check_chains.specs as check_chains
pub use Rattle.check_gates.specs as check_gates
