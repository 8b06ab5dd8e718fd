pub mod Doubt
-- passed on to the crates above
pub use Rattle.check_laws.specs as check_laws
pub use Rattle.net_covers.specs as net_covers
