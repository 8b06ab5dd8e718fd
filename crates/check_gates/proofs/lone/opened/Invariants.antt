use Rattle.std.proofs.Common.{◌≡◌, map}
use Rattle.net_model.specs.Cycle as cycle
use Rattle.rtl_flat.specs.Process.{action, body_of}
use Rattle.rtl_flat.specs.WellFormed.{statements_of}
use Rattle.check_gates.proofs.lone.opened.Given as goal

abbrev pub invariant-loop-inner : goal.invariant-loop-inner
invariant-loop-inner l =
    cycle.opened (body_of (map action l.rest)) ≡ cycle.opened (body_of (map action l.body))

abbrev pub decreases-loop-inner : goal.decreases-loop-inner
decreases-loop-inner l = statements_of (body_of (map action l.rest))
