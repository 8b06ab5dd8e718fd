pub mod Laws
pub mod Unknown
-- passed on to the crates above
pub use Rattle.net_covers.specs as net_covers
pub use Rattle.sign_cycles.specs as sign_cycles
