pub mod Compared
pub mod Firsts
pub mod Setups
pub mod Progress
pub mod Replays
pub mod Runs
pub mod Tables
-- passed on to the crates above
pub use Rattle.event_queue.specs as event_queue
pub use Rattle.netlist_eval.specs.net_list
pub use Rattle.netlist_eval.specs.net_order
pub use Rattle.netlist_eval.specs.net_settle
pub use Rattle.netlist_eval.specs.net_solve
pub use Rattle.netlist_eval.specs.net_start
pub use Rattle.netlist_eval.specs as netlist_eval
pub use Rattle.event_queue.specs.rtl_scan
