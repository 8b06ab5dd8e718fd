pub mod Effects
pub mod Laws
pub mod Nets
pub mod Plain
pub mod Writers
-- passed on to the crates above
pub use Rattle.event_laws.specs as event_laws
