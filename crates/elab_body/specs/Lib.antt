pub mod Acts
pub mod Bodies
pub mod Courses
pub mod Events
pub mod Faultless
pub mod Made
pub mod Steps
-- passed on to the crates above
pub use Rattle.elab_nodes.specs as elab_nodes
pub use Rattle.elab_nodes.specs.elab_scope
