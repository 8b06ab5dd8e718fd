pub mod Building
-- passed on to the crates above
pub use Rattle.check_conditions.specs as check_conditions
pub use Rattle.rtl_elab.specs.elab_flat
pub use Rattle.desk_refusals.specs.elab_scope
pub use Rattle.rtl_elab.specs as rtl_elab
