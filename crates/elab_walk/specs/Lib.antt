pub mod Leavings
pub mod Links
pub mod Placements
pub mod Refusals
pub mod Regions
pub mod Rooms
pub mod Trails
pub mod Visits
-- passed on to the crates above
pub use Rattle.elab_links.specs.elab_items
pub use Rattle.elab_links.specs as elab_links
pub use Rattle.elab_parts.specs as elab_parts
pub use Rattle.elab_links.specs.elab_scope
