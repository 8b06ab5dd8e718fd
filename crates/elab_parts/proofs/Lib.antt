mod Borrowed
mod Examples
pub mod Gates
pub mod Law
pub mod Listing
pub mod Pausing
pub mod Rows
pub mod Wholes
-- passed on to the crates above
pub use Rattle.elab_body.proofs as elab_body_proofs
pub use Rattle.elab_body.proofs.elab_nodes_proofs
