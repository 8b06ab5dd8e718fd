mod Children
mod Examples
mod Items
mod Keeping
pub mod Rows
mod Taking
-- passed on to the crates above
pub use Rattle.elab_walk.proofs.elab_items_proofs
pub use Rattle.elab_walk.proofs.elab_links_proofs
pub use Rattle.elab_walk.proofs.elab_parts_proofs
pub use Rattle.elab_walk.proofs as elab_walk_proofs
