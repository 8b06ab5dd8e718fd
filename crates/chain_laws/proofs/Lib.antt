pub mod Chains
pub mod Tests
pub mod Branches
pub mod Chained
-- passed on to the crates above
pub use Rattle.check_chains.proofs as check_chains_proofs
