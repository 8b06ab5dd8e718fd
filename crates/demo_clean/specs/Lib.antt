pub mod Unshown
-- passed on to the crates above
pub use Rattle.check_clean.specs.check_assign
pub use Rattle.check_clean.specs.check_clocks
pub use Rattle.demo_replay.specs as demo_replay
pub use Rattle.check_clean.specs.event_laws
pub use Rattle.demo_replay.specs.event_queue
pub use Rattle.check_clean.specs.net_laws
pub use Rattle.demo_replay.specs.net_list
pub use Rattle.demo_replay.specs.net_order
pub use Rattle.check_clean.specs.net_rest
pub use Rattle.demo_replay.specs.net_settle
pub use Rattle.demo_replay.specs.net_solve
pub use Rattle.demo_replay.specs.net_start
pub use Rattle.demo_replay.specs.netlist_eval
pub use Rattle.demo_replay.specs.rtl_scan
