pub mod Facts
pub mod Forms
pub mod Judged
pub mod Taken
-- passed on to the crates above
pub use Rattle.net_list.specs.check_assign
pub use Rattle.net_list.specs.check_chains
pub use Rattle.net_list.specs.check_clocks
pub use Rattle.net_list.specs.check_gates
pub use Rattle.net_list.specs as net_list
