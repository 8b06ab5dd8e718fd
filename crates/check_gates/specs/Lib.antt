pub mod Admitted
pub mod Forms
pub mod Latches
pub mod Reach
pub mod Links
pub mod Passed
pub mod Tops
pub mod Waits
-- passed on to the crates above
pub use Rattle.check_chains.specs as check_chains
