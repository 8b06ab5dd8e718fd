use Rattle.std.proofs.Common.{◌≡◌}
use Rattle.rtl_flat.specs.Flats.{flat}
use Rattle.tests_netlists.specs.netlist_eval.Sims.{flat_of}
use Rattle.tests_rows.proofs.runs.ran_over.Given as goal

abbrev pub invariant-loop-settings : goal.invariant-loop-settings
invariant-loop-settings l = flat_of l.sim ≡ flat l.design
