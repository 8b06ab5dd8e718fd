pub mod Checks
pub mod Departure
pub mod Telling
pub mod Verdicts
-- passed on to the crates above
pub use Rattle.vcd_signals.specs as vcd_signals
