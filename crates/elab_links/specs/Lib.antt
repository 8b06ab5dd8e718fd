pub mod Connections
pub mod Drivable
pub mod Groups
pub mod Instances
pub mod Marks
pub mod Modules
pub mod Parameters
pub mod Ports
-- passed on to the crates above
pub use Rattle.elab_items.specs as elab_items
pub use Rattle.elab_items.specs.elab_scope
