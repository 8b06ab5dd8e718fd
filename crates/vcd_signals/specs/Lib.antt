pub mod Keys
pub mod Recording
pub mod Signals
-- passed on to the crates above
pub use Rattle.vcd_read.specs as vcd_read
