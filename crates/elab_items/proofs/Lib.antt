pub mod Declaring
mod Examples
pub mod Law
pub mod Lawful
pub mod Places
pub mod Views
-- passed on to the crates above
pub use Rattle.elab_scope.proofs as elab_scope_proofs
