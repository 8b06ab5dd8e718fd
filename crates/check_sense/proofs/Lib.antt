mod Example
pub mod Findings
pub mod Left
pub mod Woken
-- passed on to the crates above
pub use Rattle.check_found.proofs as check_found_proofs
