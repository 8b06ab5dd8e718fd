-- What is decided: either it holds or it is refuted.
use Rattle.std.proofs.Common.{◌≡◌, ◌∙◌, ◌<◌, ℕ, zero, suc, Bool, true, false, Option, None, Some, refl, sym, subst, inl, inr, arith, ◌⊎◌}
use Rattle.std.specs.Option.{IsSomeAnd}
use Rattle.std.proofs.lemmas.Bool.{cases_Bool, cases_eq, false≢true, true≢false}
use Rattle.rtl_flat.specs.declared.signal.Kind.{Kind}
use Rattle.rtl_flat.specs.declared.signal.Kind.TheVariants.{TopInput, Net, Var}
use Rattle.rtl_rule.specs.Parts.{some_below}
use Rattle.rtl_rule.proofs.Below.{some_at, some_found}

abbrev pub Decided : Type 0 → Type 0
Decided P = P ⊎ (P → ⊥)

pub both : (P Q : Type 0) → Decided P → Decided Q → Decided (P × Q)
both P Q (inl p) (inl q) = inl (p, q)
both P Q (inl p) (inr refutes) = inr (λ h. refutes h.1)
both P Q (inr refutes) q = inr (λ h. refutes h.0)

pub neither : (P : Type 0) → Decided P → Decided (P → ⊥)
neither P (inl p) = inr (λ h. h p)
neither P (inr refutes) = inl refutes

pub either_of : (P Q : Type 0) → Decided P → Decided Q → Decided (P ⊎ Q)
either_of P Q (inl p) q = inl (inl p)
either_of P Q (inr refutes) (inl q) = inl (inr q)
either_of P Q (inr refutes) (inr refutes') = inr (λ h. elim h [ inl p ↦ refutes p | inr q ↦ refutes' q ])

-- by a test
pub by_test : (P : Type 0) (b : Bool) → (b ≡ true → P) → (P → b ≡ true) → Decided P
by_test P true to back = inl (to refl)
by_test P false to back = inr (λ p. false≢true (back p))

-- whether it holds
pub told : {P : Type 0} → Decided P → Bool
told (inl p) = true
told (inr refutes) = false

pub told_true : {P : Type 0} (h : Decided P) → told h ≡ true → P
unfolding told
told_true (inl p) e = p
told_true (inr refutes) e = absurd (false≢true e)

pub told_from : {P : Type 0} (h : Decided P) → P → told h ≡ true
unfolding told
told_from (inl p) q = refl
told_from (inr refutes) q = absurd (refutes q)

pub told_not : {P : Type 0} (h : Decided P) → (P → ⊥) → told h ≡ false
unfolding told
told_not (inl p) q = absurd (q p)
told_not (inr refutes) q = refl

-- some number, where those that count are below a limit
pub some_number : (P : ℕ → Type 0) (test : ℕ → Bool) (n : ℕ) → ((k : ℕ) → test k ≡ true → P k) → ((k : ℕ) → P k → test k ≡ true) → ((k : ℕ) → P k → k < n) → Decided ((k : ℕ) × P k)
some_number P test n to back inside =
    elim (cases_Bool (some_below n test)) [
      | inl is ↦ let found = some_found n test is in inl (found.number, to found.number found.is)
      | inr isnt ↦
          inr (λ h. let (k, p) = h in false≢true (sym isnt ∙ some_at n test k (inside k p) (back k p)))
    ]

some_among : (P : ℕ → Type 0) → ((k : ℕ) → Decided (P k)) → (n : ℕ) → ((k : ℕ) × (k < n) × P k) ⊎ ((k : ℕ) → k < n → P k → ⊥)
some_among P each zero = inr (λ k below p. omega (arith, below))
some_among P each (suc n) = by_rest (some_among P each n) (each n)
  where
    by_rest : ((k : ℕ) × (k < n) × P k) ⊎ ((k : ℕ) → k < n → P k → ⊥) → Decided (P n) → ((k : ℕ) × (k < suc n) × P k) ⊎ ((k : ℕ) → k < suc n → P k → ⊥)
    by_rest (inl (k, below, p)) here = inl (k, omega (arith, below), p)
    by_rest (inr before) (inl p) = inl (n, omega arith, p)
    by_rest (inr before) (inr here) = inr (λ k below p.
        elim (cases_eq k n) [
          | inl same ↦ here (subst P same p)
          | inr other ↦ before k (omega (arith, below, other)) p
        ])

-- the same where those that count are below the limit
pub some_of : (P : ℕ → Type 0) → ((k : ℕ) → Decided (P k)) → (n : ℕ) → ((k : ℕ) → P k → k < n) → Decided ((k : ℕ) × P k)
some_of P each n inside = by_search (some_among P each n)
  where
    by_search : ((k : ℕ) × (k < n) × P k) ⊎ ((k : ℕ) → k < n → P k → ⊥) → Decided ((k : ℕ) × P k)
    by_search (inl (k, below, p)) = inl (k, p)
    by_search (inr before) = inr (λ h. let (k, p) = h in before k (inside k p) p)

-- an element that is there
pub there_decided : {A : Type 0} (P : A → Type 0) (o : Option A) → ((x : A) → o ≡ Some x → Decided (P x)) → Decided (IsSomeAnd o P)
there_decided P None each = inr (λ h. h)
there_decided P (Some x) each = each x refl

pub equal_kind : (kind : Kind) → Decided (kind ≡ Var)
equal_kind TopInput = inr (λ e. absurd (cc))
equal_kind Net = inr (λ e. absurd (cc))
equal_kind Var = inl refl

pub is_false : (b : Bool) → Decided (b ≡ false)
is_false true = inr (λ e. true≢false e)
is_false false = inl refl
