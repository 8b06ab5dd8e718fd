pub mod Lates
pub mod Costs
pub mod Rooms
pub mod First
pub mod Tallying
pub mod Offers
pub mod Holding
pub mod Propositions
pub mod Starts
pub mod Sims
-- passed on to the crates above
pub use Rattle.event_tables.specs.event_write
pub use Rattle.event_tables.specs.rtl_scan
