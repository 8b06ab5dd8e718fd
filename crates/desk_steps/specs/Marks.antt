-- It serves inner contracts and proofs; no answer of the program is stated by it.
-- Which inputs a line has set already.
use Rattle.std.specs.Prelude.{◌≡◌, ℕ, Bool, List}
use Rattle.std.specs.BTreeMap.{get}
use Rattle.std.specs.Option.{is_some}
use Rattle.std.specs.Ordering.{nat_cmp}
use Rattle.desk_steps.specs.declared.line.Marks.{Marks}
use Rattle.desk_steps.specs.Steps.{Setting, is_set}

abbrev pub is_marked : Marks → ℕ → Bool
is_marked marks signal = is_some (get nat_cmp marks.signals signal)

-- whether the marks are those of settings
abbrev pub AreMarks : Marks → List Setting → Type 0
AreMarks marks settings = (signal : ℕ) → is_marked marks signal ≡ is_set signal settings
