use Rattle.std.proofs.Common.{◌≡◌, ◌≤◌, [], drop}
use Rattle.rtl_prep.specs.Initials as spec
use Rattle.rtl_prep.specs.declared.initial.Within.TheVariants.{Outside}
use Rattle.rtl_prep.specs.Stops.{each}
use Rattle.rtl_prep.proofs.initial.shed_from.Given as goal

abbrev pub invariant-loop-token : goal.invariant-loop-token
invariant-loop-token l = record {
  deep : spec.depth_of l.shed.within ≤ l.token-index;
  done : each (spec.shed l.text) (spec.seen l.shed) (drop l.token-index l.tokens) ≡ each (spec.shed l.text) (record { within = Outside; kept = []; dropped = l.fn.dropped.items }) l.tokens;
}
