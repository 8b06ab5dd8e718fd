use Rattle.std.proofs.Common.{◌≡◌, drop}
use Rattle.std.specs.List.{list_any}
use Rattle.rtl_rule.specs.Parts.{is_x}
use Rattle.check_unknown.proofs.expressions.has_x.Given as goal

abbrev pub invariant-loop-at : goal.invariant-loop-at
invariant-loop-at l = list_any is_x (drop l.at l.bits) ≡ list_any is_x l.bits
