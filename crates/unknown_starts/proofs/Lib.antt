pub mod Laws
pub mod Order
pub mod Starts
pub mod Worked
-- passed on to the crates above
pub use Rattle.sign_unknown.proofs as sign_unknown_proofs
