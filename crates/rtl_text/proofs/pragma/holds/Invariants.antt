use Rattle.std.proofs.Common.{◌≡◌, drop}
use Rattle.rtl_tree.specs.Splits.{holds}
use Rattle.rtl_text.proofs.pragma.holds.Given as goal

abbrev pub invariant-loop-at : goal.invariant-loop-at
invariant-loop-at l = holds l.part (drop l.at l.text) ≡ holds l.part l.text
