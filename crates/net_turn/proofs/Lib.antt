pub mod Bridges
pub mod Put
pub mod Steps
pub mod Chosen
pub mod Turned
pub mod Numbered
pub mod Parted
pub mod Sourced
-- passed on to the crates above
pub use Rattle.net_settle.proofs as net_settle_proofs
