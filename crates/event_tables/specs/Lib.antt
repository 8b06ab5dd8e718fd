pub mod Hearing
pub mod Driving
-- passed on to the crates above
pub use Rattle.event_write.specs.event_tally
pub use Rattle.event_write.specs as event_write
pub use Rattle.event_write.specs.rtl_scan
