-- passed on to the crates above
pub use Rattle.sign_firm.specs.check_clean.check_all
pub use Rattle.sign_firm.specs.check_clean
pub use Rattle.sign_firm.specs.check_clean.event_settling
pub use Rattle.net_clean.specs as net_clean
pub use Rattle.sign_firm.specs as sign_firm
pub use Rattle.sign_firm.specs.check_clean.sign_cycles
