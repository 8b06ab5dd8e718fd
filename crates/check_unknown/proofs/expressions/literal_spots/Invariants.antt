use Rattle.std.proofs.Common.{◌≡◌, map, take}
use Rattle.rtl_flat.specs.Expression.{tree}
use Rattle.rtl_rule.specs.Parts.{is_literal_with, is_x}
use Rattle.check_unknown.specs.Lists.{tree_spots}
use Rattle.check_unknown.proofs.expressions.literal_spots.Given as goal

abbrev pub invariant-loop-e : goal.invariant-loop-e
invariant-loop-e l =
    l.spots.items ≡ tree_spots (is_literal_with is_x) l.process.spot (map (λ e. tree e.now) (take l.e-index l.e-items))
