use Rattle.std.proofs.Common.{◌≡◌, drop}
use Rattle.rtl_bits.specs.Bits.{all_with, may_equal}
use Rattle.check_case.proofs.disjoint.may_equal.Given as goal

abbrev pub invariant-loop-at : goal.invariant-loop-at
invariant-loop-at l =
    all_with may_equal (drop l.at l.one) (drop l.at l.other) ≡ all_with may_equal l.one l.other
