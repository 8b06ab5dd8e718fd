pub mod Asking
pub mod Extracts
pub mod LookUps
pub mod Moves
-- passed on to the crates above
pub use Rattle.rtl_elab.specs.elab_flat
pub use Rattle.rtl_elab.specs.elab_links
pub use Rattle.rtl_elab.specs.elab_walk
pub use Rattle.rtl_elab.specs as rtl_elab
