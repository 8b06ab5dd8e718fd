pub mod Changes
pub mod Listeners
pub mod Stored
pub mod Entries
pub mod QueueState
pub mod Choices
pub mod Rooms
-- passed on to the crates above
pub use Rattle.event_tally.specs as event_tally
pub use Rattle.rtl_scan.specs as rtl_scan
