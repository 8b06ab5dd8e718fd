pub mod Beginning
pub mod Fitting
pub mod Lawfully
pub mod Marked
pub mod Once
pub mod Ordered
pub mod Started
pub mod Stepping
-- passed on to the crates above
pub use Rattle.infer_regs.proofs.chain_laws_proofs
pub use Rattle.infer_regs.proofs.check_clocks_proofs
pub use Rattle.infer_regs.proofs.check_gates_proofs
pub use Rattle.infer_regs.proofs.check_found_proofs
pub use Rattle.infer_regs.proofs.net_list_proofs
pub use Rattle.net_turn.proofs.net_settle_proofs
pub use Rattle.net_order.proofs.net_solve_proofs
pub use Rattle.net_start.proofs as net_start_proofs
