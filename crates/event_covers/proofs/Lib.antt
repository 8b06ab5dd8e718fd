pub mod Bodies
mod Example
pub mod Laws
pub mod MayBe
pub mod Operators
pub mod Values
pub mod Writes
-- passed on to the crates above
pub use Rattle.event_laws.proofs as event_laws_proofs
