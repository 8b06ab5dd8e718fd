pub mod Branches
pub mod Complete
pub mod Cycles
pub mod Firsts
pub mod Held
pub mod Lawful
pub mod Laws
pub mod Live
pub mod Ranked
pub mod Reading
pub mod Replays
pub mod Stable
pub mod Sure
pub mod Trials
-- passed on to the crates above
pub use Rattle.demo_clean.proofs.event_laws_proofs
