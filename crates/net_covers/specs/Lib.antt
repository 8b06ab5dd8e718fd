pub mod Marks
-- passed on to the crates above
pub use Rattle.net_rest.specs as net_rest
pub use Rattle.event_covers.specs as event_covers
