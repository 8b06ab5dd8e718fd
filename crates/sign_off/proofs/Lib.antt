mod Example
-- passed on to the crates above
pub use Rattle.sign_firm.proofs.check_clean_proofs.check_all_proofs
