pub mod Alike
pub mod Cases
pub mod Declarations
pub mod Differing
pub mod Nested
pub mod Notes
pub mod Numbers
pub mod Reads
pub mod Scopes
pub mod Standards
pub mod Unsized
pub mod Uses
pub mod Worth
-- passed on to the crates above
pub use Rattle.elab_walk.specs as elab_walk
pub use Rattle.elab_walk.specs.elab_items
pub use Rattle.elab_walk.specs.elab_links
pub use Rattle.elab_walk.specs.elab_parts
pub use Rattle.elab_walk.specs.elab_scope
