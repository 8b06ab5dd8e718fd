use Rattle.std.proofs.Common.{◌≡◌, drop}
use Rattle.std.specs.List.{list_any}
use Rattle.std.specs.Str.{bytes_eq}
use Rattle.check_conditions.proofs.foreign.has_macro.Given as goal

abbrev pub invariant-loop-other : goal.invariant-loop-other
invariant-loop-other l =
    list_any (λ one. bytes_eq one l.name) (drop l.other-index l.other-items)
    ≡ list_any (λ one. bytes_eq one l.name) l.other-items
