pub mod Fresh
pub mod Rulings
-- passed on to the crates above
pub use Rattle.desk_build.specs as desk_build
pub use Rattle.elab_names.specs.elab_flat
pub use Rattle.elab_names.specs as elab_names
pub use Rattle.desk_refusals.specs.elab_scope
pub use Rattle.elab_names.specs.rtl_elab
