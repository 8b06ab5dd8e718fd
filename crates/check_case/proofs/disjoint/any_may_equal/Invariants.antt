use Rattle.std.proofs.Common.{◌≡◌, drop}
use Rattle.std.specs.List.{list_any}
use Rattle.rtl_bits.specs.Bits.{all_with, may_equal}
use Rattle.check_case.proofs.disjoint.any_may_equal.Given as goal

abbrev pub invariant-loop-label : goal.invariant-loop-label
invariant-loop-label l =
    list_any (λ label. all_with may_equal label l.bits) (drop l.label-index l.labels) ≡ list_any (λ label. all_with may_equal label l.bits) l.labels
