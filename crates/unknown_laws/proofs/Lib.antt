pub mod Choices
pub mod Plain
mod Example
pub mod Inputs
pub mod Marks
pub mod Registers
pub mod Told
-- passed on to the crates above
pub use Rattle.check_laws.proofs as check_laws_proofs
pub use Rattle.net_covers.proofs as net_covers_proofs
