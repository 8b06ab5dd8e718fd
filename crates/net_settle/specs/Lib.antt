pub mod Laws
pub mod Settle
pub mod Work
-- passed on to the crates above
pub use Rattle.net_body.specs.event_laws
pub use Rattle.net_body.specs as net_body
pub use Rattle.net_solve.specs as net_solve
