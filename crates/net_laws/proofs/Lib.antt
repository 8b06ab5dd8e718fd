pub mod After
pub mod Alike
pub mod Apart
pub mod Blocks
pub mod Covered
pub mod Depends
pub mod Digits
pub mod Exact
mod Example
pub mod Firm
pub mod Follows
pub mod Known
pub mod Late
pub mod Laws
pub mod Literals
pub mod Numbers
pub mod Numeric
pub mod Parts
pub mod Starts
-- passed on to the crates above
pub use Rattle.event_laws.proofs as event_laws_proofs
