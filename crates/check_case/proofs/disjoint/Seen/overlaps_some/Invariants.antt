use Rattle.std.proofs.Common.{◌≡◌, drop, map}
use Rattle.rtl_flat.specs.Expression.{tree}
use Rattle.check_case.specs.Literals.{overlap_some}
use Rattle.check_case.proofs.disjoint.Seen.overlaps_some.Given as goal

abbrev pub invariant-loop-label : goal.invariant-loop-label
invariant-loop-label l =
    overlap_some l.self (map tree (drop l.label-index l.labels)) ≡ overlap_some l.self (map tree l.labels)
