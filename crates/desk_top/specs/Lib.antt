pub mod Words
pub mod Commands
pub mod Texts
pub mod Delivery
pub mod Outcome
pub mod Plans
pub mod Answers
-- passed on to the crates above
pub use Rattle.desk_build.specs as desk_build
pub use Rattle.desk_verdict.specs as desk_verdict
pub use Rattle.desk_build.specs.elab_flat
pub use Rattle.desk_runs.specs.event_queue
pub use Rattle.desk_build.specs.rtl_elab
