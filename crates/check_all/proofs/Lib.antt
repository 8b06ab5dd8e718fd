pub mod Alone
pub mod Merging
pub mod Without
-- passed on to the crates above
pub use Rattle.check_sense.proofs.check_found_proofs
