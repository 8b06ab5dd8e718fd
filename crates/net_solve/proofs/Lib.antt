pub mod Digits
pub mod Same
pub mod Worked
pub mod Ranked
-- passed on to the crates above
pub use Rattle.net_rest.proofs.event_runs_proofs
pub use Rattle.net_rest.proofs as net_rest_proofs
