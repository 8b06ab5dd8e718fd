use Rattle.std.proofs.Common.{◌≡◌, cond, drop}
use Rattle.std.specs.List.{list_all}
use Rattle.check_unknown.specs.Unknowns.{has_one, is_zero}
use Rattle.check_unknown.proofs.divisors.has_one.Given as goal

abbrev pub invariant-loop-at : goal.invariant-loop-at
invariant-loop-at l =
    cond l.some (list_all is_zero (drop l.at l.bits)) (has_one (drop l.at l.bits)) ≡ has_one l.bits
