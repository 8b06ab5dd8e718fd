-- Digits, one after the other.
use Rattle.std.proofs.Common.{◌≡◌, ◌∙◌, ◌⊎◌, ℕ, ◌+◌, ◌-◌, ◌*◌, ◌<◌, ◌≤◌, List, [], ◌∷◌, length, get_or, drop, refl, sym, ap, arith, add-one, drop-cons, inl, inr}
use Rattle.std.specs.Prelude.{min}
use Rattle.std.proofs.lemmas.Bool.{cases_lt}
use Rattle.desk_numbers.specs.Numbers.{number_behind, significant}

grows : (n : ℕ) (ds : List ℕ) → n ≤ number_behind n ds
grows n [] = omega arith
grows n (d ∷ ds) = let step = grows (n * 10 + (d - 48)) ds in omega (arith, step)

capped_cases : (most n : ℕ) (ds : List ℕ) → (most < n) ⊎ (n ≤ most)
    → min (number_behind (min n most) ds) most ≡ min (number_behind n ds) most
capped_cases most n ds (inl above) =
    let least : min n most ≡ most = omega (arith, above) in
    let a = grows most ds in
    let b = grows n ds in
    ap (λ m. min (number_behind m ds) most) least ∙ omega (arith, a, b, above)
capped_cases most n ds (inr below) =
    let same : min n most ≡ n = omega (arith, below) in
    ap (λ m. min (number_behind m ds) most) same

-- a number that is too great already may be any such
capped_behind : (most n : ℕ) (ds : List ℕ)
    → min (number_behind (min n most) ds) most ≡ min (number_behind n ds) most
capped_behind most n ds = capped_cases most n ds (cases_lt most n)

-- one digit more
pub next_digit : (most number at next : ℕ) (text : List ℕ) → at < length text
    → next ≡ min (number * 10 + (get_or text at 0 - 48)) most
    → min (number_behind number (drop at text)) most ≡ min (number_behind 0 text) most
    → min (number_behind next (drop (at + 1) text)) most ≡ min (number_behind 0 text) most
next_digit most number at next text within step so_far =
    let head : drop at text ≡ get_or text at 0 ∷ drop (at + 1) text = rw add-one (drop-cons text at 0 within) in
    ap (λ m. min (number_behind m (drop (at + 1) text)) most) step
    ∙ capped_behind most (number * 10 + (get_or text at 0 - 48)) (drop (at + 1) text)
    ∙ sym (ap (λ ds. min (number_behind number ds) most) head)
    ∙ so_far

-- a leading zero is none of the digits that count
pub zero_next : (text : List ℕ) (at : ℕ) → at < length text → get_or text at 0 ≡ 48
    → significant (drop (at + 1) text) ≡ significant (drop at text)
zero_next text at within zero =
    let head : drop at text ≡ get_or text at 0 ∷ drop (at + 1) text = rw add-one (drop-cons text at 0 within) in
    sym (ap significant head ∙ rw zero refl)
