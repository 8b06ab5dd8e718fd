use Rattle.rtl_flat.specs.Flats.{flat}
use Rattle.rtl_rule.specs.Sites.{AreFindings}
use Rattle.check_loops.specs.check_found.Gathered.{signal_numbers, sites_below}
use Rattle.check_assign.specs.Assigned.{IsMixedAssign, mixed_assign_at}
use Rattle.check_assign.proofs.kinds.mixed_assign.Given as goal

abbrev pub invariant-loop-process : goal.invariant-loop-process
invariant-loop-process l =
    AreFindings (IsMixedAssign (flat l.design)) (mixed_assign_at (flat l.design)) (sites_below (signal_numbers (flat l.design)) (flat l.design) l.process-index) l.found.items
