pub mod Agree
pub mod Beside
pub mod BringUp
pub mod Formed
pub mod Known
pub mod Lacking
pub mod Laws
pub mod PowerUp
pub mod Round
pub mod RoundLaws
pub mod Unfired
-- passed on to the crates above
pub use Rattle.event_edges.specs as event_edges
pub use Rattle.event_gates.specs as event_gates
pub use Rattle.net_rest.specs.net_laws
pub use Rattle.net_rest.specs as net_rest
