pub mod Connections
pub mod Notes
pub mod Readings
pub mod Signs
pub mod Steady
pub mod Views
-- passed on to the crates above
pub use Rattle.elab_uses.specs.elab_standard
pub use Rattle.elab_uses.specs.elab_walk
