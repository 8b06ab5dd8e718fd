pub mod Laws
pub mod Levels
pub mod Moves
pub mod Quiet
pub mod Registers
pub mod Reset
pub mod Synchronous
pub mod Turned
-- passed on to the crates above
pub use Rattle.event_runs.specs.event_laws
pub use Rattle.event_runs.specs as event_runs
