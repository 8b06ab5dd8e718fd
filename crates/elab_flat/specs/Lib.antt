pub mod Children
pub mod Flats
pub mod Held
pub mod Views
pub mod Works
pub mod Links
-- passed on to the crates above
pub use Rattle.elab_walk.specs.elab_items
pub use Rattle.elab_walk.specs.elab_links
pub use Rattle.elab_walk.specs.elab_parts
pub use Rattle.elab_walk.specs as elab_walk
