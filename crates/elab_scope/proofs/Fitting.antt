-- Breadths that give no fault.
use Rattle.std.specs.Prelude.{ℕ, ◌+◌, ◌^◌, ◌≤◌, nat_le, ℤ, pos, negsuc, int_lt, true, FitsSigned, ◌&&◌, if◌then◌else◌, List, [], ◌∷◌}
use Rattle.std.specs.Int.{w64}
use Rattle.std.proofs.Math.Pow.{pow_mono}
use Rattle.std.proofs.lemmas.Int.{ints}
use Rattle.std.proofs.Common.{◌≡◌, refl, arith, inl, inr}
use Rattle.std.proofs.lemmas.Bool.{cases_Bool}
use Rattle.std.proofs.lemmas.Bool.Decides.{nat_tests}
use Rattle.elab_scope.specs.declared.widths.Breadth.{Breadth}
use Rattle.elab_scope.specs.declared.widths.Breadth.TheVariants.{Bits, Unfit}
use Rattle.elab_scope.specs.Faults.{Refusal}
use Rattle.elab_scope.specs.Rules.{width_faults}
use Rattle.elab_scope.specs.Widths.{fitted, fit, beside}

-- a number of 64 bits lies in 63 of them, and in more
pub below_places : (n : ℤ) (k : ℕ) → FitsSigned w64 n → 63 ≤ k → true ≡ int_lt n (pos (2 ^ k))
below_places (pos m) k fits far =
    let large : 2 ^ 63 ≤ 2 ^ k = pow_mono {i = 63} {j = k} far in grind (arith, ints, nat_tests)
below_places (negsuc m) k fits far = refl

pub no_cons : (x : Refusal) (xs : List Refusal) → x ∷ xs ≡ [] → ⊥
no_cons x xs h = cc

pub fitted_is : (n : ℕ) → 1 ≤ n → n ≤ 128 → fitted n ≡ Bits n
fitted_is n low high = grind (arith, nat_tests)

pub fits : (at n : ℕ) → width_faults at (fitted n) ≡ [] → (1 ≤ n) × (n ≤ 128)
fits at n h =
    elim (cases_Bool (nat_le 1 n && nat_le n 128)) [
      | inl yes' ↦ (grind (arith, nat_tests), grind (arith, nat_tests))
      | inr no' ↦ absurd (no_cons _ _ (rw no' at h))
    ]

-- bits together, where they fit
abbrev pub summed : ℕ → Breadth
summed n = if nat_le n 128 then Bits n else Unfit

pub beside_summed : (m n : ℕ) → m ≤ 128 → beside (Bits m) (summed n) ≡ summed (m + n)
beside_summed m n high =
    elim (cases_Bool (nat_le n 128)) [
      | inl yes' ↦ rw yes' refl
      | inr no' ↦ rw no' (grind (arith, nat_tests))
    ]

pub fit_summed : (at n : ℕ) → width_faults at (fit (summed n)) ≡ [] → (1 ≤ n) × (n ≤ 128)
fit_summed at n h =
    elim (cases_Bool (nat_le n 128)) [
      | inl yes' ↦ fits at n (rw yes' at h)
      | inr no' ↦ absurd (no_cons _ _ (rw no' at h))
    ]

pub fit_is : (n : ℕ) → 1 ≤ n → n ≤ 128 → fit (summed n) ≡ Bits n
fit_is n low high = grind (arith, nat_tests)
