pub mod Bodies
pub mod Laws
pub mod Made
pub mod Mixture
pub mod Rest
-- passed on to the crates above
pub use Rattle.event_covers.proofs as event_covers_proofs
pub use Rattle.net_rest.proofs as net_rest_proofs
