-- Single places of lists.
use Rattle.std.proofs.Common.{ℕ, zero, suc, ◌≡◌, ◌≢◌, ◌∙◌, ◌<◌, ◌+◌, arith, List, [], ◌∷◌, ◌++◌, take, drop, length, set, Some, refl, ap}
use Rattle.std.specs.List.{slice_get}
use Rattle.rtl_bits.specs.declared.Bit.{Bit}
use Rattle.rtl_bits.specs.Bits.{replaced}

pub read_same : {A : Type 0} (xs : List A) (i : ℕ) (x : A) → i < length xs → slice_get (set xs i x) i ≡ Some x
read_same [] i x within = absurd (omega (arith, within))
read_same (y ∷ ys) zero x within = refl
read_same (y ∷ ys) (suc i) x within = read_same ys i x (omega (arith, within))

pub read_other : {A : Type 0} (xs : List A) (i j : ℕ) (x : A) → j ≢ i → slice_get (set xs i x) j ≡ slice_get xs j
read_other [] i j x apart = refl
read_other (y ∷ ys) zero zero x apart = absurd (apart refl)
read_other (y ∷ ys) zero (suc j) x apart = refl
read_other (y ∷ ys) (suc i) zero x apart = refl
read_other (y ∷ ys) (suc i) (suc j) x apart = read_other ys i j x (λ e. apart (ap suc e))

-- one bit that is written over another
pub replaced_bit : (k : ℕ) (b : Bit) (xs : List Bit) → k < length xs → replaced k (b ∷ []) xs ≡ set xs k b
replaced_bit k b [] within = absurd (omega (arith, within))
replaced_bit zero b (x ∷ xs) within = refl
replaced_bit (suc k) b (x ∷ xs) within =
    let next : suc k + 1 ≡ suc (k + 1) = omega arith in
    ap (λ n. x ∷ (take k xs ++ b ∷ [] ++ drop n (x ∷ xs))) next ∙ ap (λ ys. x ∷ ys) (replaced_bit k b xs (omega (arith, within)))
