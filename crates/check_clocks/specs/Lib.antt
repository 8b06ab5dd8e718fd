pub mod Clocks
pub mod Findings
pub mod Data
pub mod Uses
pub mod Roles
pub mod Cone
-- passed on to the crates above
pub use Rattle.check_gates.specs as check_gates
pub use Rattle.check_gates.specs.check_chains
