pub mod Statuses
pub mod Words
pub mod Servings
pub mod Commands
-- passed on to the crates above
pub use Rattle.desk_top.specs.event_queue
