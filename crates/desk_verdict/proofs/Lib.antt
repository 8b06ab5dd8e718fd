pub mod Said
pub mod Unshown
-- passed on to the crates above
pub use Rattle.sign_off.proofs.check_all_proofs
