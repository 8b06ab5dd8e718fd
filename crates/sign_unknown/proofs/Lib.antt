pub mod Cone
pub mod Edges
mod Example
pub mod Held
pub mod Kept
pub mod Laws
pub mod Sound
pub mod Unclocked
pub mod Updates
-- passed on to the crates above
pub use Rattle.net_covers.proofs as net_covers_proofs
pub use Rattle.sign_cycles.proofs as sign_cycles_proofs
