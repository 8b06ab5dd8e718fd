mod Places
mod Heard
mod Widths
mod Parts
mod Woken
pub mod Writing
pub mod Entering
pub mod Targets
pub mod Making
mod Choosing
-- passed on to the crates above
pub use Rattle.event_tally.proofs as event_tally_proofs
pub use Rattle.rtl_scan.proofs as rtl_scan_proofs
