pub mod Roled
pub mod Derivations
pub mod Coned
pub mod AsData
pub mod Gated
-- passed on to the crates above
pub use Rattle.check_gates.proofs as check_gates_proofs
