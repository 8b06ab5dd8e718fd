mod Borrowed
pub mod Acting
pub mod Counting
pub mod Deciding
mod Examples
pub mod Indices
pub mod Making
pub mod Passing
pub mod Turning
-- passed on to the crates above
pub use Rattle.elab_nodes.proofs as elab_nodes_proofs
pub use Rattle.elab_nodes.proofs.elab_scope_proofs
