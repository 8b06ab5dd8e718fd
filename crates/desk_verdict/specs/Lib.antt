pub mod Verdicts
-- passed on to the crates above
pub use Rattle.sign_off.specs.check_all
pub use Rattle.sign_off.specs.check_clean
pub use Rattle.demo_clean.specs.demo_replay
pub use Rattle.sign_off.specs.event_settling
pub use Rattle.sign_off.specs.net_clean
pub use Rattle.sign_off.specs.sign_firm
pub use Rattle.sign_off.specs.sign_cycles
