use Rattle.std.proofs.Common.{◌≡◌, drop}
use Rattle.check_conditions.specs.Foreign.{is_elsewhere, is_elsewhere_from}
use Rattle.check_conditions.proofs.foreign.is_macro_elsewhere.Given as goal

abbrev pub invariant-loop-at : goal.invariant-loop-at
invariant-loop-at l =
    is_elsewhere_from l.at (drop l.at l.all) l.number l.name ≡ is_elsewhere l.all l.number l.name
