pub mod Sites
pub mod Decisions
pub mod Gates
pub mod Designs
pub mod Statements
pub mod Cases
pub mod Operands
pub mod Expressions
pub mod Temporaries
pub mod Clocks
pub mod Stored
pub mod Bodies
pub mod Targets
-- passed on to the crates above
pub use Rattle.chain_laws.proofs as chain_laws_proofs
pub use Rattle.event_settling.proofs.event_laws_proofs
pub use Rattle.event_settling.proofs as event_settling_proofs
pub use Rattle.check_unknown.proofs.check_parts_proofs
pub use Rattle.net_laws.proofs as net_laws_proofs
