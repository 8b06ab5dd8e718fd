pub mod Computing
pub mod Latches
pub mod Laws
pub mod Levels
pub mod Numbers
pub mod Rest
-- passed on to the crates above
pub use Rattle.event_runs.proofs.event_laws_proofs
pub use Rattle.event_runs.proofs as event_runs_proofs
pub use Rattle.net_laws.proofs as net_laws_proofs
