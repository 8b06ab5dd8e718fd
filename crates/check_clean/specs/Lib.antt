pub mod Benches
pub mod Clean
pub mod Ending
pub mod Levelled
pub mod Promise
-- passed on to the crates above
pub use Rattle.check_all.specs as check_all
pub use Rattle.check_all.specs.check_assign
pub use Rattle.check_all.specs.check_case
pub use Rattle.check_laws.specs.check_chains
pub use Rattle.check_laws.specs.check_clocks
pub use Rattle.check_laws.specs as check_laws
pub use Rattle.check_all.specs.check_sense
pub use Rattle.check_all.specs.check_unknown
pub use Rattle.check_laws.specs.event_settling
pub use Rattle.check_laws.specs.event_laws
pub use Rattle.check_laws.specs.net_laws
pub use Rattle.sign_cycles.specs.net_rest
pub use Rattle.sign_cycles.specs as sign_cycles
