pub mod Effects
mod Example
pub mod Inputs
pub mod Late
pub mod Laws
pub mod May
pub mod Nets
pub mod Resolved
pub mod Signals
pub mod Still
pub mod Writers
pub mod Writes
-- passed on to the crates above
pub use Rattle.event_laws.proofs as event_laws_proofs
