-- Steps of what stands in a row.
use Rattle.std.specs.Prelude.{ℕ, ◌+◌, ◌<◌, length, drop, List, ◌∷◌, ◌++◌}
use Rattle.std.proofs.Common.{◌≡◌, ◌∙◌, ap, sym, append_assoc, get_or}
use Rattle.std.proofs.lemmas.List.{at_drop_more}
use Rattle.elab_body.specs.Steps.{Course, Step, passed}
use Rattle.elab_body.proofs.Passing.{passed_append}

pub passed_twice : (c c1 c2 : Course) (xs ys : List Step) → c1 ≡ passed c xs → c2 ≡ passed c1 ys → c2 ≡ passed c (xs ++ ys)
passed_twice c c1 c2 xs ys first second =
    second ∙ ap (λ d. passed d ys) first ∙ sym (passed_append c xs ys)

-- one more of a row
pub passed_more : {X : Type 0} (row : List X → List Step) (own : X → List Step) → ((x : X) (xs : List X) → row (x ∷ xs) ≡ own x ++ row xs) → (c c1 : Course) (all : List X) (i : ℕ) (item : X) (r : Course) → i < length all → item ≡ get_or all i item → c1 ≡ passed c (own item) → passed c (row (drop i all)) ≡ r → passed c1 (row (drop (i + 1) all)) ≡ r
passed_more row own more c c1 all i item r inside is told earlier =
    ap (λ d. passed d (row (drop (i + 1) all))) told
    ∙ sym (passed_append c (own item) (row (drop (i + 1) all)))
    ∙ sym (ap (passed c) (more item (drop (i + 1) all)))
    ∙ ap (λ x. passed c (row (x ∷ drop (i + 1) all))) is
    ∙ sym (at_drop_more (λ xs. passed c (row xs)) all i item inside)
    ∙ earlier

-- one more of a row, behind what is made already
pub more_made : {X Y : Type 0} (row : List X → List Y) (own : X → List Y) → ((x : X) (xs : List X) → row (x ∷ xs) ≡ own x ++ row xs) → (ys zs : List Y) (all : List X) (i : ℕ) (item : X) (r : List Y) → i < length all → item ≡ get_or all i item → zs ≡ ys ++ own item → ys ++ row (drop i all) ≡ r → zs ++ row (drop (i + 1) all) ≡ r
more_made row own more ys zs all i item r inside is told earlier =
    ap (λ us. us ++ row (drop (i + 1) all)) told
    ∙ append_assoc ys (own item) (row (drop (i + 1) all))
    ∙ sym (ap (λ us. ys ++ us) (more item (drop (i + 1) all)))
    ∙ ap (λ x. ys ++ row (x ∷ drop (i + 1) all)) is
    ∙ sym (at_drop_more (λ us. ys ++ row us) all i item inside)
    ∙ earlier
