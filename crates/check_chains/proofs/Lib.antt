mod Example
pub mod Bad
pub mod Bodies
pub mod Formed
pub mod Given
pub mod Nodes
pub mod Registers
pub mod Resets
pub mod Signals
pub mod Steps
pub mod Taken
pub mod Told
-- passed on to the crates above
pub use Rattle.check_found.proofs as check_found_proofs
pub use Rattle.check_parts.proofs as check_parts_proofs
pub use Rattle.check_parts.proofs.rtl_scan_proofs
