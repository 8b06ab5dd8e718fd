pub mod Branching
mod Examples
pub mod Restoring
pub mod Rows
pub mod Turning
pub mod Views
-- passed on to the crates above
pub use Rattle.elab_standard.proofs.elab_walk_proofs
pub use Rattle.elab_standard.proofs.elab_walk_proofs.elab_links_proofs
