pub mod Ranks
pub mod Order
-- passed on to the crates above
pub use Rattle.net_solve.specs as net_solve
