pub mod Coming
pub mod Deciding
mod Examples
pub mod Libraries
-- passed on to the crates above
pub use Rattle.elab_lawful.proofs.elab_links_proofs
pub use Rattle.elab_lawful.proofs.elab_walk_proofs
