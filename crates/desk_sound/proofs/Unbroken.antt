-- Rows that break no rule: the first and the rest, the one at a place, and one row more.
use Rattle.std.proofs.Common.{◌≡◌, ◌∙◌, Bool, true, false, cond, List, [], ◌∷◌, ◌++◌, Option, Some, None, append_assoc, refl, sym, ap, ℕ, ◌<◌, length, zero, suc, take, get_or, arith}
use Rattle.std.proofs.lemmas.Bool.{cond-false}
use Rattle.std.proofs.lemmas.List.{append-nil}
use Rattle.std.proofs.lemmas.Option.{none-some}
use Rattle.desk_tables.specs.Rules.{first_broken}

-- nothing comes of a test where it fails and nothing comes of the rest
pub none_unless : {A : Type 0} (test : Bool) (it : A) (rest : Option A) → cond test (Some it) rest ≡ None → (test ≡ false) × (rest ≡ None)
none_unless true it rest none = absurd (none-some it (sym none))
none_unless false it rest none = (refl, none)

module _ {Row : Type 0} (breaks : List Row → Row → Bool) where
  pub first_sound : (before : List Row) (row : Row) (rows : List Row) → first_broken breaks before (row ∷ rows) ≡ None → breaks before row ≡ false
  first_sound before row rows none = (none_unless (breaks before row) _ _ none).0

  pub rest_sound : (before : List Row) (row : Row) (rows : List Row) → first_broken breaks before (row ∷ rows) ≡ None → first_broken breaks (before ++ row ∷ []) rows ≡ None
  rest_sound before row rows none = (none_unless (breaks before row) _ _ none).1

  pub sound_behind : (before : List Row) (row : Row) (rows : List Row) → breaks before row ≡ false → first_broken breaks (before ++ row ∷ []) rows ≡ None → first_broken breaks before (row ∷ rows) ≡ None
  sound_behind before row rows first rest = cond-false _ _ _ first ∙ rest

  -- rows break none with one more where that one breaks none behind them
  pub unbroken_more : (before rows : List Row) (row : Row) → first_broken breaks before rows ≡ None → breaks (before ++ rows) row ≡ false → first_broken breaks before (rows ++ row ∷ []) ≡ None
  unbroken_more before [] row none sound =
      sound_behind before row [] (ap (λ it. breaks it row) (sym (append-nil before)) ∙ sound) refl
  unbroken_more before (first ∷ rows) row none sound =
      sound_behind before first (rows ++ row ∷ []) (first_sound before first rows none)
      (unbroken_more (before ++ first ∷ []) rows row (rest_sound before first rows none)
      (ap (λ it. breaks it row) (append_assoc before (first ∷ []) rows) ∙ sound))

  broken_nowhere : (before rows : List Row) (place : ℕ) (other : Row) → first_broken breaks before rows ≡ None → place < length rows → breaks (before ++ take place rows) (get_or rows place other) ≡ false
  broken_nowhere before [] place other none inside = absurd (omega arith)
  broken_nowhere before (row ∷ rows) zero other none inside =
      ap (λ it. breaks it row) (append-nil before) ∙ first_sound before row rows none
  broken_nowhere before (row ∷ rows) (suc place) other none inside =
      ap (λ it. breaks it (get_or rows place other)) (sym (append_assoc before (row ∷ []) (take place rows)))
      ∙ broken_nowhere (before ++ row ∷ []) rows place other (rest_sound before row rows none) (omega arith)

  -- the row at a place breaks none
  pub unbroken_at : (rows : List Row) (place : ℕ) (other : Row) → first_broken breaks [] rows ≡ None → place < length rows → breaks (take place rows) (get_or rows place other) ≡ false
  unbroken_at rows place other none inside = broken_nowhere [] rows place other none inside
