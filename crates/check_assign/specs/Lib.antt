pub mod Assigned
pub mod Findings
pub mod Kept
pub mod Lists
pub mod Marks
-- passed on to the crates above
pub use Rattle.check_gates.specs as check_gates
pub use Rattle.check_loops.specs.check_found
pub use Rattle.check_loops.specs.rtl_scan
