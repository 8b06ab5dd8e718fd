-- From one member of a list to the next, where the first is sought of which a test holds.
use Rattle.std.proofs.Common.{◌≡◌, ◌∙◌, ◌≤◌, ◌+◌, ℕ, zero, suc, Bool, true, false, if◌then◌else◌, List, [], ◌∷◌, drop, length, Option, None, Some, Vec, refl, sym, ap, add-one, arith}
use Rattle.std.specs.declared.alloc.Global.{Global}
use Rattle.std.specs.List.{slice_get}
use Rattle.demo_replay.specs.declared.compare.Difference.{Difference}
use Rattle.demo_replay.specs.Tables.{first_among, first_in, place_of, place_or}

-- ---- differences

among_at : (test : ℕ → Bool) (xs : List Difference) (i : ℕ) (x : Difference) → slice_get xs i ≡ Some x → first_among test (drop i xs) ≡ (if test x.signal.0 then Some x else first_among test (drop (suc i) xs))
among_at test [] i x is = absurd (cc)
among_at test (y ∷ xs) zero x is =
    let same : y ≡ x = cc in
    ap (λ (one : Difference). if test one.signal.0 then Some one else first_among test xs) same
among_at test (y ∷ xs) (suc i) x is = among_at test xs i x is

choice_true : {A : Type 0} (b : Bool) (x y : A) → b ≡ true → (if b then x else y) ≡ x
choice_true true x y is = refl
choice_true false x y is = absurd (cc)

choice_false : {A : Type 0} (b : Bool) (x y : A) → b ≡ false → (if b then x else y) ≡ y
choice_false true x y is = absurd (cc)
choice_false false x y is = refl

pub among_found : (test : ℕ → Bool) (xs : List Difference) (i : ℕ) (x : Difference) → slice_get xs i ≡ Some x → test x.signal.0 ≡ true → first_among test (drop i xs) ≡ Some x
among_found test xs i x is holds =
    among_at test xs i x is ∙ choice_true (test x.signal.0) (Some x) (first_among test (drop (suc i) xs)) holds

pub among_passed : (test : ℕ → Bool) (xs : List Difference) (i : ℕ) (x : Difference) → slice_get xs i ≡ Some x → test x.signal.0 ≡ false → first_among test (drop (i + 1) xs) ≡ first_among test (drop i xs)
among_passed test xs i x is fails =
    ap (λ (k : ℕ). first_among test (drop k xs)) (add-one i)
    ∙ sym (among_at test xs i x is ∙ choice_false (test x.signal.0) (Some x) (first_among test (drop (suc i) xs)) fails)

pub among_end : (test : ℕ → Bool) (xs : List Difference) (i : ℕ) → length xs ≤ i → first_among test (drop i xs) ≡ None
among_end test [] zero past = refl
among_end test [] (suc i) past = refl
among_end test (x ∷ xs) zero past = absurd (omega (arith, past))
among_end test (x ∷ xs) (suc i) past = among_end test xs i (omega (arith, past))

-- ---- steps

in_at : (test : ℕ → Bool) (step : ℕ) (xs : List (Vec Difference Global)) (i : ℕ) (x : Vec Difference Global) → slice_get xs i ≡ Some x → first_in test step (drop i xs) ≡ place_or step (first_among test x.items) (first_in test (suc step) (drop (suc i) xs))
in_at test step [] i x is = absurd (cc)
in_at test step (y ∷ xs) zero x is =
    let same : y ≡ x = cc in
    ap (λ (one : Vec Difference Global). place_or step (first_among test one.items) (first_in test (suc step) xs)) same
in_at test step (y ∷ xs) (suc i) x is = in_at test step xs i x is

pub in_found : (test : ℕ → Bool) (step : ℕ) (xs : List (Vec Difference Global)) (i : ℕ) (x : Vec Difference Global) (first : Difference) → slice_get xs i ≡ Some x → first_among test x.items ≡ Some first → first_in test step (drop i xs) ≡ Some (place_of step first)
in_found test step xs i x first is found =
    in_at test step xs i x is ∙ ap (λ (o : Option Difference). place_or step o (first_in test (suc step) (drop (suc i) xs))) found

pub in_passed : (test : ℕ → Bool) (step : ℕ) (xs : List (Vec Difference Global)) (i : ℕ) (x : Vec Difference Global) → slice_get xs i ≡ Some x → first_among test x.items ≡ None → first_in test (suc step) (drop (i + 1) xs) ≡ first_in test step (drop i xs)
in_passed test step xs i x is none =
    ap (λ (k : ℕ). first_in test (suc step) (drop k xs)) (add-one i)
    ∙ sym (in_at test step xs i x is ∙ ap (λ (o : Option Difference). place_or step o (first_in test (suc step) (drop (suc i) xs))) none)

pub in_end : (test : ℕ → Bool) (step : ℕ) (xs : List (Vec Difference Global)) (i : ℕ) → length xs ≤ i → first_in test step (drop i xs) ≡ None
in_end test step [] zero past = refl
in_end test step [] (suc i) past = refl
in_end test step (x ∷ xs) zero past = absurd (omega (arith, past))
in_end test step (x ∷ xs) (suc i) past = in_end test step xs i (omega (arith, past))
