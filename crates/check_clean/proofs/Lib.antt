mod Closure
mod Levels
mod Depths
mod Unread
mod Branches
mod Cone
mod Tested
mod Gated
mod Sources
mod Resets
mod Formed
mod Choices
pub mod Clean
mod Starts
mod Beside
mod Benches
mod BenchesExample
mod Promise
mod Ending
mod Runs
-- passed on to the crates above
pub use Rattle.check_all.proofs as check_all_proofs
pub use Rattle.check_all.proofs.check_found_proofs
pub use Rattle.check_laws.proofs as check_laws_proofs
pub use Rattle.check_laws.proofs.event_laws_proofs
pub use Rattle.check_laws.proofs.net_laws_proofs
pub use Rattle.sign_cycles.proofs.net_rest_proofs
pub use Rattle.sign_cycles.proofs as sign_cycles_proofs
