use Rattle.std.proofs.Common.{ℕ, ◌≡◌, ◌==◌, ◌&&◌, ◌||◌, List, not, drop}
use Rattle.std.specs.List.{list_any}
use Rattle.std.specs.Str.{bytes_eq}
use Rattle.name_map.specs.Values.{values_of}
use Rattle.check_conditions.specs.Kept.{is_other}
use Rattle.check_conditions.proofs.providers.push_macros.Given as goal

abbrev pub invariant-loop-name : goal.invariant-loop-name
invariant-loop-name l =
    (number : ℕ) (name : List ℕ) → (is_other number (values_of l.providers name)
    || (not (l.file == number) && list_any (λ one. bytes_eq one name) (drop l.name-index l.macros)))
    ≡ (is_other number (values_of l.fn.providers name)
    || (not (l.file == number) && list_any (λ one. bytes_eq one name) l.macros))
