pub mod Places
pub mod Turning
pub mod Grouping
pub mod Showing
pub mod Spreading
pub mod Cycles
-- passed on to the crates above
pub use Rattle.check_found.proofs as check_found_proofs
pub use Rattle.check_found.proofs.rtl_scan_proofs
