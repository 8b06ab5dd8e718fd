-- passed on to the crates above
pub use Rattle.event_write.specs as event_write
pub use Rattle.netlist_eval.specs.net_start
pub use Rattle.netlist_eval.specs as netlist_eval
