pub mod Deaf
pub mod Ears
pub mod Joining
pub mod Hearing
pub mod Given
pub mod Entering
-- passed on to the crates above
pub use Rattle.event_write.proofs as event_write_proofs
pub use Rattle.event_write.proofs.rtl_scan_proofs
