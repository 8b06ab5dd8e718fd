pub mod Chained
-- passed on to the crates above
pub use Rattle.check_chains.specs as check_chains
pub use Rattle.check_sense.specs as check_sense
