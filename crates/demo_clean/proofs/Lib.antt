pub mod Begins
pub mod Chains
pub mod Same
pub mod Settings
pub mod Steps
pub mod Trials
pub mod Unshown
-- passed on to the crates above
pub use Rattle.demo_replay.proofs.chain_laws_proofs
pub use Rattle.check_clean.proofs.event_laws_proofs
pub use Rattle.check_clean.proofs.net_laws_proofs
pub use Rattle.demo_replay.proofs.net_list_proofs
pub use Rattle.check_clean.proofs.net_rest_proofs
pub use Rattle.demo_replay.proofs.net_settle_proofs
pub use Rattle.demo_replay.proofs.net_solve_proofs
pub use Rattle.demo_replay.proofs.net_start_proofs
