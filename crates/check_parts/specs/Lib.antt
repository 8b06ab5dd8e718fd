pub mod Kept
pub mod Reads
-- passed on to the crates above
pub use Rattle.rtl_scan.specs as rtl_scan
