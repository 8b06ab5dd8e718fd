pub mod Findings
pub mod Rules
-- passed on to the crates above
pub use Rattle.check_assign.specs as check_assign
pub use Rattle.check_case.specs as check_case
pub use Rattle.check_clocks.specs.check_chains
pub use Rattle.check_clocks.specs as check_clocks
pub use Rattle.check_clocks.specs.check_gates
pub use Rattle.check_readings.specs as check_readings
pub use Rattle.check_sense.specs as check_sense
pub use Rattle.check_unknown.specs as check_unknown
