pub mod Turns
pub mod Joining
pub mod Ranking
pub mod Losing
pub mod Answering
-- passed on to the crates above
pub use Rattle.net_solve.proofs as net_solve_proofs
