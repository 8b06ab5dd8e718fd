pub mod Carried
pub mod Cycles
pub mod Given
pub mod Stays
pub mod Driven
pub mod One
pub mod Able
pub mod Lawful
-- passed on to the crates above
pub use Rattle.net_body.proofs.event_laws_proofs
pub use Rattle.net_solve.proofs.event_runs_proofs
pub use Rattle.net_body.proofs as net_body_proofs
pub use Rattle.net_body.proofs.net_laws_proofs
pub use Rattle.net_solve.proofs.net_rest_proofs
pub use Rattle.net_solve.proofs as net_solve_proofs
