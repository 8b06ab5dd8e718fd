use Rattle.std.proofs.Common.{◌≡◌, ◌++◌, drop, map}
use Rattle.std.specs.List.{flat_map}
use Rattle.text_ground.specs.declared.text.Spot.{Spot}
use Rattle.rtl_flat.specs.Expression.{tree}
use Rattle.rtl_flat.specs.Process.{doing}
use Rattle.rtl_rule.specs.Parts.{nodes, valued_trees}
use Rattle.check_assign.specs.Marks.{z_spots}
use Rattle.check_assign.proofs.literals.z_places.Given as goal

abbrev pub invariant-loop-e : goal.invariant-loop-e
invariant-loop-e l =
    (otherwise : Spot) → l.spots.items ++ z_spots otherwise (map (λ e. tree e.now) (drop l.e-index l.e-items)) ≡ z_spots otherwise (flat_map nodes (valued_trees (doing l.does)))
