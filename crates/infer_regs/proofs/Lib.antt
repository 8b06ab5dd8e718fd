pub mod Faults
pub mod Topped
pub mod Taking
pub mod Judging
pub mod Controlling
-- passed on to the crates above
pub use Rattle.net_list.proofs.chain_laws_proofs
pub use Rattle.net_list.proofs.check_clocks_proofs
pub use Rattle.net_list.proofs.check_gates_proofs
pub use Rattle.net_list.proofs.check_found_proofs
pub use Rattle.net_list.proofs as net_list_proofs
