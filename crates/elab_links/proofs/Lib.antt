mod Borrowed
pub mod Founds
pub mod Pieces
pub mod Places
pub mod Rows
pub mod Steps
-- passed on to the crates above
pub use Rattle.elab_items.proofs as elab_items_proofs
pub use Rattle.elab_items.proofs.elab_scope_proofs
