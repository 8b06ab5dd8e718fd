pub mod Lasting
pub mod Laws
-- passed on to the crates above
pub use Rattle.demo_clean.specs.demo_replay
