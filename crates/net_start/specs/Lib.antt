pub mod Kept
pub mod Listing
pub mod Start
pub mod Stored
-- passed on to the crates above
pub use Rattle.check_found.specs.rtl_scan
