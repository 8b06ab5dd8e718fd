-- Where a row is put among the rows of the files.
use Rattle.std.proofs.Common.{◌≡◌, ◌∙◌, ℕ, ◌+◌, Bool, true, false, not, cond, List, ◌∷◌, length, suc, Option, Some, None, refl, sym, ap, inl, inr, arith}
use Rattle.std.specs.Prelude.{nat_lt, position}
use Rattle.std.specs.List.{position_or_len}
use Rattle.std.specs.Option.{option_map}
use Rattle.std.proofs.lemmas.Bool.{cases_lt, cond-false, cond-true, le-ltb, lt-ltb}
use Rattle.desk_tables.specs.Changes.{file_at, has_name, with_file}
use Rattle.desk_tables.specs.declared.rows.FileRow.{FileRow}

-- the place in a list of one element more, whose first one may fail the test
abbrev placed : Bool → ℕ → ℕ → Option ℕ
placed fails place many =
    cond (nat_lt (cond fails (1 + place) 0) (suc many)) (Some (cond fails (1 + place) 0)) None

placed_here : (place many : ℕ) → placed false place many ≡ Some 0
placed_here place many = cond-true _ _ _ (lt-ltb 0 (suc many) (omega arith))

placed_past : (place many : ℕ) → placed true place many ≡ option_map (λ n. suc n) (cond (nat_lt place many) (Some place) None)
placed_past place many =
    elim (cases_lt place many) [
      | inl inside ↦
          cond-true _ _ _ (lt-ltb (1 + place) (suc many) (omega arith))
          ∙ ap (λ (n : ℕ). Some n) (omega arith)
          ∙ sym (ap (option_map (λ n. suc n)) (cond-true _ _ _ (lt-ltb place many inside)))
      | inr past ↦
          cond-false _ _ _ (le-ltb (1 + place) (suc many) (omega arith))
          ∙ sym (ap (option_map (λ n. suc n)) (cond-false _ _ _ (le-ltb place many past)))
    ]

pub position_here : {X : Type 0} (p : X → Bool) (x : X) (xs : List X) → p x ≡ true → position p (x ∷ xs) ≡ Some 0
position_here p x xs passes =
    ap (λ b. placed (not b) (position_or_len p xs) (length xs)) passes
    ∙ placed_here (position_or_len p xs) (length xs)

pub position_past : {X : Type 0} (p : X → Bool) (x : X) (xs : List X) → p x ≡ false → position p (x ∷ xs) ≡ option_map (λ n. suc n) (position p xs)
position_past p x xs fails =
    ap (λ b. placed (not b) (position_or_len p xs) (length xs)) fails
    ∙ placed_past (position_or_len p xs) (length xs)

module _ (row held : FileRow) (rows : List FileRow) where
  pub row_put_here : has_name row.name held ≡ true → with_file row (held ∷ rows) ≡ row ∷ rows
  row_put_here named =
      ap (λ place. file_at place row (held ∷ rows)) (position_here (has_name row.name) held rows named)

  row_put_at_past : (place : Option ℕ) → file_at (option_map (λ n. suc n) place) row (held ∷ rows) ≡ held ∷ file_at place row rows
  row_put_at_past None = refl
  row_put_at_past (Some place) = refl

  pub row_put_past : has_name row.name held ≡ false → with_file row (held ∷ rows) ≡ held ∷ with_file row rows
  row_put_past other =
      ap (λ place. file_at place row (held ∷ rows)) (position_past (has_name row.name) held rows other)
      ∙ row_put_at_past (position (has_name row.name) rows)
