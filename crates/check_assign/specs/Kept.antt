-- It serves inner contracts and proofs; no answer of the program is stated by it.
-- Which signals are temporaries, from a row of answers.
use Rattle.std.specs.Prelude.{ℕ, ◌≡◌, ◌↔◌, Bool, true, List, Some}
use Rattle.std.specs.List.{slice_get}
use Rattle.rtl_flat.specs.PathSets.{IsTemporary}
use Rattle.rtl_flat.specs.Flats.{Flat}

pub record AreTemporaries (d : Flat) (answers : List Bool) : Type 0 where
  pub each : (s : ℕ) → slice_get answers s ≡ Some true ↔ IsTemporary d.signals d.tasks s
