pub mod Lines
pub mod Runs
pub mod Progress
-- passed on to the crates above
pub use Rattle.event_queue.specs as event_queue
