pub mod AtEdge
pub mod Cone
pub mod Due
mod Example
pub mod Going
pub mod Hearing
pub mod Laws
pub mod Levels
pub mod Moves
pub mod Ports
pub mod Quiet
pub mod Registers
pub mod Resets
pub mod Temporaries
pub mod Turning
pub mod Turns
-- passed on to the crates above
pub use Rattle.event_runs.proofs.event_laws_proofs
pub use Rattle.event_runs.proofs as event_runs_proofs
