pub mod Spans
-- passed on to the crates above
pub use Rattle.net_laws.specs.event_laws
pub use Rattle.net_laws.specs as net_laws
