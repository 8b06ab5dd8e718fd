-- A list whose elements are changed one after the other, from the first on.
use Rattle.std.proofs.Common.{◌≡◌, ◌∙◌, ℕ, ◌+◌, ◌<◌, List, [], ◌∷◌, ◌++◌, length, take, drop, get_or, slice_set, map, zero, suc, refl, ap, arith}

-- the elements before a place are changed
abbrev pub mapped_to : {X : Type 0} → (X → X) → ℕ → List X → List X
mapped_to f place xs = map f (take place xs) ++ drop place xs

next : {X : Type 0} (f : X → X) (place : ℕ) (xs : List X) (other : X) → place < length xs → slice_set (mapped_to f place xs) place (f (get_or (mapped_to f place xs) place other)) ≡ mapped_to f (suc place) xs
next f place [] other inside = absurd (omega arith)
next f zero (x ∷ xs) other inside = refl
next f (suc place) (x ∷ xs) other inside = ap (λ rest. f x ∷ rest) (next f place xs other (omega arith))

-- so is the one at the place
pub mapped_more : {X : Type 0} (f : X → X) (xs ys : List X) (place : ℕ) (other : X) → place < length xs → ys ≡ mapped_to f place xs → slice_set ys place (f (get_or ys place other)) ≡ mapped_to f (place + 1) xs
mapped_more f xs ys place other inside is =
    let more : suc place ≡ place + 1 = omega arith in
    ap (λ it. slice_set it place (f (get_or it place other))) is
    ∙ next f place xs other inside
    ∙ ap (λ n. mapped_to f n xs) more
