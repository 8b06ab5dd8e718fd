mod Examples
pub mod Rows
pub mod Unchanged
pub mod Views
-- passed on to the crates above
pub use Rattle.elab_scope.proofs as elab_scope_proofs
