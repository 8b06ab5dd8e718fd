pub mod Delays
pub mod Gates
pub mod Items
pub mod Tasks
-- passed on to the crates above
pub use Rattle.elab_body.specs as elab_body
pub use Rattle.elab_body.specs.elab_nodes
