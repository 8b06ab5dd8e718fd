use Rattle.rtl_flat.specs.Flats.{flat}
use Rattle.netlist_eval.specs.Sims.{shown}
use Rattle.demo_replay.proofs.Starting.{AreTakenBelow}
use Rattle.demo_replay.proofs.start.taken_values.Given as goal

abbrev pub invariant-loop-number : goal.invariant-loop-number
invariant-loop-number l =
    AreTakenBelow (flat l.setup.design.now) l.setup.temporaries.items (shown l.net) l.number l.values.items
