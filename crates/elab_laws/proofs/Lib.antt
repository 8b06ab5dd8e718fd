pub mod Always
pub mod Apart
pub mod Assignments
pub mod Bodies
pub mod Examples
pub mod Labels
pub mod Lists
pub mod Made
pub mod Nodes
pub mod Steps
pub mod Targets
pub mod Turns
pub mod Values
pub mod Widths
-- passed on to the crates above
pub use Rattle.elab_body.proofs.elab_scope_proofs
