use Rattle.std.proofs.Common.{◌≡◌, ◌||◌, not, drop, map, List}
use Rattle.std.specs.List.{list_any}
use Rattle.rtl_bits.specs.declared.Bit.{Bit}
use Rattle.rtl_flat.specs.Expression.{tree}
use Rattle.rtl_flat.specs.Flows.{literal}
use Rattle.check_case.specs.Cases.{some_differ}
use Rattle.check_case.specs.Literals.{overlap_in}
use Rattle.check_case.proofs.disjoint.Seen.add_all.Given as goal

abbrev pub invariant-loop-label : goal.invariant-loop-label
invariant-loop-label l =
    (y : List (List Bit)) → (overlap_in l.self y || list_any (λ label. not (some_differ (literal label) y)) (map tree (drop l.label-index l.labels))) ≡ (overlap_in l.fn.self y || list_any (λ label. not (some_differ (literal label) y)) (map tree l.labels))
