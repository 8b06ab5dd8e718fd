pub mod Closing
pub mod Fixed
pub mod Laws
-- passed on to the crates above
pub use Rattle.event_edges.proofs as event_edges_proofs
