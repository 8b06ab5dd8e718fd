use Rattle.std.proofs.Common.{ℕ, ◌≡◌, ◌||◌, List, drop}
use Rattle.name_map.specs.Values.{values_of}
use Rattle.check_conditions.specs.Foreign.{is_elsewhere, is_elsewhere_from}
use Rattle.check_conditions.specs.Kept.{is_other}
use Rattle.check_conditions.proofs.providers.providers.Given as goal

abbrev pub invariant-loop-file : goal.invariant-loop-file
invariant-loop-file l =
    (number : ℕ) (name : List ℕ) → (is_other number (values_of l.made name)
    || is_elsewhere_from l.file (drop l.file l.all) number name) ≡ is_elsewhere l.all number name
