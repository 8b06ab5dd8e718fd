pub mod Gathered
pub mod Marked
pub mod Masks
pub mod Scanned
-- passed on to the crates above
pub use Rattle.rtl_scan.specs as rtl_scan
