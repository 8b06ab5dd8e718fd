pub mod Basis
pub mod Holding
pub mod Netlists
pub mod Sims
pub mod Steps
-- passed on to the crates above
pub use Rattle.infer_regs.specs.check_assign
pub use Rattle.infer_regs.specs.check_chains
pub use Rattle.infer_regs.specs.check_clocks
pub use Rattle.infer_regs.specs.check_gates
pub use Rattle.infer_regs.specs.net_list
pub use Rattle.net_order.specs as net_order
pub use Rattle.net_turn.specs.net_settle
pub use Rattle.net_order.specs.net_solve
pub use Rattle.net_start.specs as net_start
