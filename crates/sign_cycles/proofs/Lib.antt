pub mod Alone
pub mod Beside
mod BesideExample
pub mod BringUp
pub mod Chains
mod Clean
pub mod DataSteps
pub mod Edges
pub mod Followed
pub mod GateSteps
pub mod Held
pub mod InTurn
mod KnownExample
pub mod Lacking
mod LackingExample
mod LatchExample
pub mod Lists
mod Register
pub mod Resets
mod RoundExample
pub mod RoundLaws
pub mod Settled
pub mod Steps
pub mod Unfired
mod UnfiredExample
pub mod Up
-- passed on to the crates above
pub use Rattle.event_edges.proofs as event_edges_proofs
pub use Rattle.net_rest.proofs.net_laws_proofs
pub use Rattle.net_rest.proofs as net_rest_proofs
