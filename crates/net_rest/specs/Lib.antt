pub mod Laws
pub mod Rest
-- passed on to the crates above
pub use Rattle.event_runs.specs.event_laws
pub use Rattle.event_runs.specs as event_runs
pub use Rattle.net_laws.specs as net_laws
