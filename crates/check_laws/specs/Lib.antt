pub mod Designs
pub mod Cases
pub mod Expressions
pub mod Clocks
pub mod Targets
-- passed on to the crates above
pub use Rattle.check_unknown.specs.check_chains
pub use Rattle.check_clocks.specs as check_clocks
pub use Rattle.event_settling.specs.event_laws
pub use Rattle.event_settling.specs.event_runs
pub use Rattle.event_settling.specs as event_settling
pub use Rattle.net_laws.specs as net_laws
