pub mod Closing
pub mod Fixed
pub mod Gates
-- passed on to the crates above
pub use Rattle.event_edges.specs as event_edges
