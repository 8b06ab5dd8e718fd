pub mod Fronts
pub mod Worlds
pub mod Reading
pub mod Answered
pub mod Answering
pub mod Buildings
pub mod Dumps
pub mod Ordered
pub mod Streaming
-- passed on to the crates above
pub use Rattle.desk_verdict.proofs.check_all_proofs
pub use Rattle.desk_build.proofs.rtl_elab_proofs
