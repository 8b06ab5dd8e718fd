use Rattle.std.proofs.Common.{◌≡◌, ◌+◌, drop}
use Rattle.std.specs.Option.{option_map}
use Rattle.rtl_text.specs.Fronts.{end_at}
use Rattle.rtl_text.proofs.front.end.Given as goal

abbrev pub invariant-loop-i : goal.invariant-loop-i
invariant-loop-i l = option_map (λ n. l.i + n) (end_at (drop l.i l.text)) ≡ end_at l.text
