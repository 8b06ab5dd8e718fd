pub mod Runs
pub mod Sources
pub mod Steps
-- passed on to the crates above
pub use Rattle.net_settle.specs.net_body
pub use Rattle.net_settle.specs as net_settle
