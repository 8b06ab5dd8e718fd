mod Example
pub mod Below
pub mod Unions
pub mod Steps
pub mod Hits
pub mod Firsts
pub mod Turns
pub mod Sets
pub mod Zeds
pub mod Together
-- passed on to the crates above
pub use Rattle.check_loops.proofs.check_found_proofs
pub use Rattle.check_loops.proofs.rtl_scan_proofs
