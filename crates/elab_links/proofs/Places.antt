-- A name at a place, as contracts see it.
use Rattle.std.specs.Prelude.{ℕ, List, map}
use Rattle.std.specs.List.{slice_get}
use Rattle.std.specs.Option.{option_map}
use Rattle.std.proofs.Common.{◌≡◌}
use Rattle.std.proofs.lemmas.Option.{slice_get-map}

pub at_place : {A B : Type 0} (f : A → B) (xs : List A) (place : ℕ) → slice_get (map f xs) place ≡ option_map f (slice_get xs place)
at_place f xs place = slice_get-map f xs place
