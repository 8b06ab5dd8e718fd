pub mod Branches
pub mod Chains
pub mod Findings
pub mod Inner
pub mod Views
-- passed on to the crates above
pub use Rattle.check_found.specs as check_found
pub use Rattle.check_parts.specs as check_parts
pub use Rattle.check_parts.specs.rtl_scan
