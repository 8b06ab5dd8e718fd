use Rattle.std.proofs.Common.{◌≡◌, drop}
use Rattle.std.specs.List.{list_any}
use Rattle.rtl_rule.specs.Parts.{is_z}
use Rattle.check_assign.proofs.literals.has_z.Given as goal

abbrev pub invariant-loop-at : goal.invariant-loop-at
invariant-loop-at l = list_any is_z (drop l.at l.bits) ≡ list_any is_z l.bits
