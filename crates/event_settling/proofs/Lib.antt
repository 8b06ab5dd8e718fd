mod Budget
pub mod Conditions
mod EndingExample
pub mod Ends
pub mod Example
pub mod Facts
mod Falls
mod Few
pub mod Going
pub mod Hears
mod Inner
mod Orders
pub mod Policies
pub mod Quiet
pub mod Rests
mod Selecting
mod Shares
pub mod Totals
mod Waking
mod Wave
-- passed on to the crates above
pub use Rattle.event_runs.proofs.event_laws_proofs
pub use Rattle.event_runs.proofs as event_runs_proofs
