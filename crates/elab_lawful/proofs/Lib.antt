pub mod Claimed
pub mod Designs
pub mod Directions
pub mod Driven
pub mod Entries
pub mod Groups
pub mod Links
pub mod Nodes
pub mod Parts
pub mod Rooms
pub mod Scopes
pub mod Tasks
pub mod Trees
pub mod Works
-- passed on to the crates above
pub use Rattle.elab_flat.proofs.elab_links_proofs
pub use Rattle.elab_flat.proofs.elab_walk_proofs
