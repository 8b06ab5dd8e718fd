mod Example
mod StepsExample
pub mod Finds
pub mod InOrder
pub mod Kept
pub mod Whole
-- passed on to the crates above
pub use Rattle.desk_verdict.proofs as desk_verdict_proofs
