pub mod Bodies
pub mod Branches
pub mod Items
-- passed on to the crates above
pub use Rattle.elab_standard.specs as elab_standard
pub use Rattle.elab_standard.specs.elab_items
pub use Rattle.elab_standard.specs.elab_links
pub use Rattle.elab_standard.specs.elab_scope
pub use Rattle.elab_standard.specs.elab_walk
