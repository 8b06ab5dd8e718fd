pub mod Faults
pub mod Chosen
pub mod Drivers
pub mod Failing
-- passed on to the crates above
pub use Rattle.chain_laws.specs as chain_laws
pub use Rattle.check_assign.specs as check_assign
pub use Rattle.chain_laws.specs.check_chains
pub use Rattle.check_clocks.specs as check_clocks
pub use Rattle.check_clocks.specs.check_gates
pub use Rattle.chain_laws.specs.check_sense
pub use Rattle.check_assign.specs.rtl_scan
