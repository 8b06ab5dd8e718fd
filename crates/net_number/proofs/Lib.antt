pub mod Fills
pub mod Known
pub mod Literals
pub mod Selected
-- passed on to the crates above
pub use Rattle.net_laws.proofs.event_laws_proofs
pub use Rattle.net_laws.proofs as net_laws_proofs
