pub mod Apart
pub mod Below
pub mod Meeting
pub mod Formed
-- passed on to the crates above
pub use Rattle.chain_laws.proofs as chain_laws_proofs
pub use Rattle.check_assign.proofs as check_assign_proofs
pub use Rattle.chain_laws.proofs.check_chains_proofs
pub use Rattle.check_clocks.proofs as check_clocks_proofs
pub use Rattle.check_clocks.proofs.check_gates_proofs
pub use Rattle.check_assign.proofs.check_found_proofs
