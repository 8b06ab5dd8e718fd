use Rattle.std.proofs.Common.{◌≡◌, ◌+◌, false, drop}
use Rattle.std.specs.Option.{option_map}
use Rattle.rtl_text.specs.Forms.{inside_at}
use Rattle.rtl_text.proofs.form.inside.Given as goal

abbrev pub invariant-loop-i : goal.invariant-loop-i
invariant-loop-i l = option_map (λ n. l.i + n) (inside_at l.escaped (drop l.i l.text)) ≡ inside_at false l.text
