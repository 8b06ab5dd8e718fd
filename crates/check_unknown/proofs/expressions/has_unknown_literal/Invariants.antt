use Rattle.std.proofs.Common.{◌≡◌, map, drop}
use Rattle.std.specs.List.{list_any}
use Rattle.rtl_flat.specs.Expression.{tree}
use Rattle.rtl_rule.specs.Parts.{is_literal_with, is_x}
use Rattle.check_unknown.proofs.expressions.has_unknown_literal.Given as goal

abbrev pub invariant-loop-e : goal.invariant-loop-e
invariant-loop-e l =
    list_any (is_literal_with is_x) (map (λ e. tree e.now) (drop l.e-index l.all)) ≡ list_any (is_literal_with is_x) (map (λ e. tree e.now) l.all)
