pub mod Conditions
pub mod Ending
pub mod Settling
-- passed on to the crates above
pub use Rattle.event_runs.specs.event_laws
pub use Rattle.event_runs.specs as event_runs
