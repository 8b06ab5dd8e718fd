pub mod Numbers
pub mod Spelled
-- passed on to the crates above
pub use Rattle.rtl_elab.proofs as rtl_elab_proofs
