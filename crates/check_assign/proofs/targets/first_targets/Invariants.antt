use Rattle.std.proofs.Common.{◌≡◌, ℕ, drop, map}
use Rattle.std.specs.List.{flat_map}
use Rattle.std.specs.Ordering.{nat_cmp}
use Rattle.std.specs.BTreeMap.{get}
use Rattle.rtl_flat.specs.Process.{action, doing}
use Rattle.rtl_rule.specs.Parts.{statements}
use Rattle.rtl_flat.specs.Flats.{flat, widths}
use Rattle.check_assign.specs.Assigned.{own_targets}
use Rattle.check_loops.specs.check_found.Marked.{joined, least_of}
use Rattle.check_assign.proofs.targets.first_targets.Given as goal

abbrev pub invariant-loop-one : goal.invariant-loop-one
invariant-loop-one l =
    (s : ℕ) → joined (get nat_cmp l.marks.spots s) (least_of (flat_map (own_targets (widths (flat l.design)) l.delayed s) (map (λ one. action one.now) (drop l.one-index l.one-items)))) ≡ least_of (flat_map (own_targets (widths (flat l.design)) l.delayed s) (statements (doing l.does)))
