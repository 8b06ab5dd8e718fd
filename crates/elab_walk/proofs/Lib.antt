mod Borrowed
pub mod Ending
mod Examples
pub mod Keeping
pub mod Leaving
pub mod Rows
pub mod Seeking
pub mod Sparing
pub mod Telling
-- passed on to the crates above
pub use Rattle.elab_links.proofs.elab_items_proofs
pub use Rattle.elab_links.proofs as elab_links_proofs
pub use Rattle.elab_parts.proofs as elab_parts_proofs
