pub mod Likeness
pub mod Breadths
mod Examples
pub mod Lists
pub mod Places
pub mod Raising
pub mod Readers
pub mod Views
-- passed on to the crates above
pub use Rattle.elab_walk.proofs as elab_walk_proofs
