mod Example
pub mod Fitting
pub mod Forming
pub mod Ifs
pub mod Latched
pub mod Linked
pub mod Marking
pub mod Passing
pub mod Placed
pub mod Reached
pub mod Testing
pub mod Topped
pub mod Waiting
-- passed on to the crates above
pub use Rattle.check_chains.proofs as check_chains_proofs
