pub mod Asides
pub mod Bodies
pub mod Ends
pub mod Entries
pub mod Levels
pub mod Marks
pub mod Named
pub mod Ready
-- passed on to the crates above
pub use Rattle.net_number.specs.event_laws
pub use Rattle.net_number.specs.net_laws
