pub mod Covers
-- passed on to the crates above
pub use Rattle.event_laws.specs as event_laws
