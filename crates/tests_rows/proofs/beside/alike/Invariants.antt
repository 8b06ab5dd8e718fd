use Rattle.std.proofs.Common.{◌≡◌, []}
use Rattle.rtl_flat.specs.Flats.{flat}
use Rattle.event_queue.specs.Sims as events
use Rattle.tests_netlists.specs.netlist_eval.Sims.{flat_of}
use Rattle.tests_rows.proofs.beside.alike.Given as goal

abbrev pub invariant-loop-settings : goal.invariant-loop-settings
invariant-loop-settings l = record {
  netlist : flat_of l.sim ≡ flat l.design;
  design : events.flat_of l.queue ≡ flat l.design;
  active : (events.state_of l.queue).activated ≡ [];
  delayed : (events.state_of l.queue).delayed ≡ [];
}
