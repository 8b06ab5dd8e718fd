use Rattle.std.proofs.Common.{◌≡◌, map, take}
use Rattle.text_ground.specs.declared.text.Spot.{Spot}
use Rattle.rtl_flat.specs.Expression.{tree}
use Rattle.rtl_flat.specs.Flats.{flat}
use Rattle.check_unknown.specs.Lists.{tree_spots}
use Rattle.check_unknown.specs.Unknowns.{divides_by_other}
use Rattle.check_unknown.proofs.divisors.push_divisions.Given as goal

abbrev pub invariant-loop-e : goal.invariant-loop-e
invariant-loop-e l = (otherwise : Spot) →
    l.spots.items ≡ tree_spots (divides_by_other (flat l.design)) otherwise (map (λ e. tree e.now) (take l.e-index l.all))
