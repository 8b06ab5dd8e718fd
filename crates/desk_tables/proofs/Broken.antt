-- Where the first row that breaks a rule is, as a loop comes to it.
use Rattle.std.proofs.Common.{◌≡◌, ◌∙◌, ℕ, ◌+◌, ◌<◌, ◌≤◌, Bool, true, false, List, [], ◌∷◌, ◌++◌, length, take, drop, get_or, Some, None, ap, sym, arith}
use Rattle.std.proofs.lemmas.List.{drop_more, take_more, length-take-le, drop_all}
use Rattle.std.proofs.lemmas.Bool.{cond-true, cond-false}
use Rattle.desk_tables.specs.Rules.{first_broken}

-- a loop that has come to a place has met no row that breaks a rule
abbrev pub Passed : {Row : Type 0} → (List Row → Row → Bool) → List Row → ℕ → Type 0
Passed breaks rows place = first_broken breaks [] rows ≡ first_broken breaks (take place rows) (drop place rows)

next : {Row : Type 0} (breaks : List Row → Row → Bool) (rows : List Row) (place : ℕ) (row : Row) → place < length rows → row ≡ get_or rows place row → drop place rows ≡ row ∷ drop (place + 1) rows
next breaks rows place row inside read =
    drop_more rows place row inside ∙ ap (λ it. it ∷ drop (place + 1) rows) (sym read)

-- the rows up to and with the one at a place
pub front : {Row : Type 0} (rows : List Row) (place : ℕ) (row : Row) → place < length rows → row ≡ get_or rows place row → take (place + 1) rows ≡ take place rows ++ row ∷ []
front rows place row inside read =
    take_more rows place row inside ∙ ap (λ it. take place rows ++ it ∷ []) (sym read)

-- the row at the loop's place is the first that breaks a rule
pub broken_here : {Row : Type 0} (breaks : List Row → Row → Bool) (rows : List Row) (place : ℕ) (row : Row) → place < length rows → row ≡ get_or rows place row → Passed breaks rows place → breaks (take place rows) row ≡ true → Some (place + 1) ≡ first_broken breaks [] rows
broken_here breaks rows place row inside read passed broken =
    sym
    (passed
    ∙ ap (first_broken breaks (take place rows)) (next breaks rows place row inside read)
    ∙ cond-true (breaks (take place rows) row) _ _ broken
    ∙ ap (λ n. Some (n + 1)) (length-take-le place rows (omega arith)))

-- it breaks none, and the loop goes on
pub passed_more : {Row : Type 0} (breaks : List Row → Row → Bool) (rows : List Row) (place : ℕ) (row : Row) → place < length rows → row ≡ get_or rows place row → Passed breaks rows place → breaks (take place rows) row ≡ false → Passed breaks rows (place + 1)
passed_more breaks rows place row inside read passed sound =
    passed
    ∙ ap (first_broken breaks (take place rows)) (next breaks rows place row inside read)
    ∙ cond-false (breaks (take place rows) row) _ _ sound
    ∙ ap (λ before. first_broken breaks before (drop (place + 1) rows)) (sym (front rows place row inside read))

-- the loop has come to the end
pub passed_all : {Row : Type 0} (breaks : List Row → Row → Bool) (rows : List Row) (place : ℕ) → length rows ≤ place → Passed breaks rows place → None ≡ first_broken breaks [] rows
passed_all breaks rows place ended passed =
    sym (passed ∙ ap (first_broken breaks (take place rows)) (drop_all place rows ended))
