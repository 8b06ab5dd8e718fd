pub mod Laws
pub mod Rules
pub mod Tame
-- passed on to the crates above
pub use Rattle.event_laws.specs as event_laws
