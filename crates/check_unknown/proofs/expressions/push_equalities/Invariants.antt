use Rattle.std.proofs.Common.{◌≡◌, map, take}
use Rattle.text_ground.specs.declared.text.Spot.{Spot}
use Rattle.rtl_flat.specs.Expression.{tree}
use Rattle.check_unknown.specs.Lists.{tree_spots}
use Rattle.check_unknown.specs.Unknowns.{is_case_equality}
use Rattle.check_unknown.proofs.expressions.push_equalities.Given as goal

abbrev pub invariant-loop-e : goal.invariant-loop-e
invariant-loop-e l = (otherwise : Spot) →
    l.spots.items ≡ tree_spots is_case_equality otherwise (map (λ e. tree e.now) (take l.e-index l.all))
