pub mod Given
pub mod Keeping
pub mod Listed
pub mod Masking
pub mod Started
pub mod Unknowns
-- passed on to the crates above
pub use Rattle.check_found.proofs.rtl_scan_proofs
