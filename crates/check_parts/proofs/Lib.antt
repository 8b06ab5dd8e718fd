pub mod Within
pub mod Earlier
pub mod OwnReads
-- passed on to the crates above
pub use Rattle.rtl_scan.proofs as rtl_scan_proofs
