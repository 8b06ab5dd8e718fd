-- A name at a place, as contracts see it, and what is left of a list from a place on.
use Rattle.std.specs.Prelude.{ℕ, List, ◌∷◌, ◌++◌, map}
use Rattle.std.specs.List.{slice_get}
use Rattle.std.specs.Option.{option_map}
use Rattle.std.proofs.Common.{◌≡◌, ◌∙◌, ◌<◌, ◌+◌, ap, sym, drop, length, get_or}
use Rattle.std.proofs.lemmas.List.{append_assoc, drop_more}
use Rattle.std.proofs.lemmas.Option.{slice_get-map}

pub at_place : {A B : Type 0} (f : A → B) (xs : List A) (place : ℕ) → slice_get (map f xs) place ≡ option_map f (slice_get xs place)
at_place f xs place = slice_get-map f xs place

pub left_at : {A : Type 0} (xs : List A) (i : ℕ) (x : A) → i < length xs → x ≡ get_or xs i x → drop i xs ≡ x ∷ drop (i + 1) xs
left_at xs i x below is = drop_more xs i x below ∙ ap (λ y. y ∷ drop (i + 1) xs) (sym is)

-- what is there after further ones, and then the rest
pub joined_on : {A : Type 0} (old new own rest : List A) → new ≡ old ++ own → new ++ rest ≡ old ++ (own ++ rest)
joined_on old new own rest is = ap (λ all. all ++ rest) is ∙ append_assoc old own rest
