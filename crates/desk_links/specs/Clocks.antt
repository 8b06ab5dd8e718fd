-- Days that a clock gives.
-- Worked examples: crates/tests_serving/stdin.
use Rattle.std.specs.Prelude.{◌≡◌, ℤ, List, ◌∷◌, Option, None, Some, Result, Ok, Err, ⊤}
use Rattle.desk_io.specs.declared.failed.Failed.{Failed}

-- it gives the first of its days, and none where it fails; what is told stays told
abbrev pub GivesFirst : Option (List ℤ) → Option (List ℤ) → Result ℤ Failed → Type 0
GivesFirst None after result = ⊤
GivesFirst (Some before) None result = ⊥
GivesFirst (Some before) (Some after) (Ok day) = before ≡ day ∷ after
GivesFirst (Some before) (Some after) (Err fault) = after ≡ before
