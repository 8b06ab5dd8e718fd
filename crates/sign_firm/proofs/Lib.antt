mod Firm
-- passed on to the crates above
pub use Rattle.check_clean.proofs as check_clean_proofs
