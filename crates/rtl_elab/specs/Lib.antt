pub mod Designs
pub mod Elaborated
-- passed on to the crates above
pub use Rattle.elab_lawful.specs.elab_body
pub use Rattle.elab_lawful.specs.elab_flat
pub use Rattle.elab_lawful.specs.elab_items
pub use Rattle.elab_lawful.specs.elab_links
pub use Rattle.elab_lawful.specs.elab_parts
pub use Rattle.elab_readings.specs as elab_readings
pub use Rattle.elab_lawful.specs.elab_scope
pub use Rattle.elab_lawful.specs.elab_walk
