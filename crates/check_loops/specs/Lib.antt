pub mod Rounds
pub mod Loops
-- passed on to the crates above
pub use Rattle.check_found.specs as check_found
pub use Rattle.check_found.specs.rtl_scan
