-- Tests of numbers below a limit.
use Rattle.std.proofs.Common.{ℕ, zero, suc, ◌≡◌, ◌<◌, Bool, true, false, refl, subst, inl, inr, arith, sym}
use Rattle.std.proofs.lemmas.Bool.{both_ways, cases_eq, false_from_ne_true, false≢true, or_cases, or_left, or_right}
use Rattle.rtl_rule.specs.Parts.{some_below}

pub some_at : (n : ℕ) (test : ℕ → Bool) (k : ℕ) → k < n → test k ≡ true → some_below n test ≡ true
some_at zero test k below is = absurd (omega (arith, below))
some_at (suc n) test k below is =
    elim (cases_eq k n) [
      | inl here ↦ or_right (some_below n test) (test n) (subst (λ j. test j ≡ true) here is)
      | inr other ↦ or_left (some_below n test) (test n) (some_at n test k (omega (arith, below, other)) is)
    ]

-- a number below a limit of which a test holds
pub record IsSome (n : ℕ) (test : ℕ → Bool) : Type 0 where
  pub number : ℕ
  pub below : number < n
  pub is : test number ≡ true

pub some_found : (n : ℕ) (test : ℕ → Bool) → some_below n test ≡ true → IsSome n test
some_found zero test h = absurd (false≢true h)
some_found (suc n) test h =
    elim (or_cases (some_below n test) (test n) h) [
      | inl before ↦
          let found = some_found n test before in
          record { number = found.number; below = omega (arith, found.below); is = found.is }
      | inr here ↦ record { number = n; below = omega arith; is = here }
    ]

pub none_at : (n : ℕ) (test : ℕ → Bool) → ((k : ℕ) → k < n → test k ≡ false) → some_below n test ≡ false
none_at n test none =
    false_from_ne_true (some_below n test) (λ h. let found = some_found n test h in both_ways (test found.number) (none found.number found.below) found.is)

-- two tests that hold together are one
pub same_by : (a b : Bool) → (a ≡ true → b ≡ true) → (b ≡ true → a ≡ true) → a ≡ b
same_by true b f g = sym (f refl)
same_by false true f g = g refl
same_by false false f g = refl
