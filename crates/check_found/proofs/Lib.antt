pub mod Those
pub mod Gathering
pub mod Sites
pub mod Inside
pub mod Signals
pub mod Ordered
pub mod Merged
pub mod Decided
pub mod Kept
pub mod Filled
pub mod Places
pub mod Shown
-- passed on to the crates above
pub use Rattle.rtl_scan.proofs as rtl_scan_proofs
