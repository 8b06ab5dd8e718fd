mod Doubts
mod Example
mod Lists
mod NodeRules
mod Nodes
mod Picks
mod Processes
mod Regions
pub mod Sized
mod Spreading
mod Worklist
-- passed on to the crates above
pub use Rattle.check_chains.proofs.check_parts_proofs
