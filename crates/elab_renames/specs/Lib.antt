pub mod Modules
pub mod Renames
-- passed on to the crates above
pub use Rattle.elab_scope.specs as elab_scope
