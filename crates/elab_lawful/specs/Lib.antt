pub mod Laws
-- passed on to the crates above
pub use Rattle.elab_laws.specs.elab_body
pub use Rattle.elab_flat.specs as elab_flat
pub use Rattle.elab_flat.specs.elab_items
pub use Rattle.elab_flat.specs.elab_links
pub use Rattle.elab_flat.specs.elab_parts
pub use Rattle.elab_laws.specs.elab_scope
pub use Rattle.elab_flat.specs.elab_walk
