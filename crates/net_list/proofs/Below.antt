-- The processes below a number are the only ones below them that may write their bits.
use Rattle.std.proofs.Common.{◌≡◌, ◌∙◌, ◌<◌, ◌≤◌, ◌+◌, ℕ, zero, suc, Bool, true, false, List, [], ◌∷◌, length, Some, sym, subst, inl, inr, arith}
use Rattle.std.specs.Prelude.{◌↔◌}
use Rattle.std.specs.List.{slice_get}
use Rattle.std.specs.Option.{IsSomeAnd}
use Rattle.std.proofs.lemmas.Bool.{both_ways, cases_eq, true≢false}
use Rattle.rtl_flat.specs.Process.{Task}
use Rattle.rtl_rule.specs.declared.rule.Rule.TheVariants.{SeveralDrivers}
use Rattle.rtl_flat.specs.Flats.{Flat}
use Rattle.rtl_rule.specs.Parts.{is_clocked}
use Rattle.net_list.specs.Failing.{IsLeast}
use Rattle.net_list.specs.Faults.{AreAlone, HasFault, IsContended}

abbrev pub AreAloneBelow : Flat → ℕ → Type 0
AreAloneBelow d n = (p : ℕ) → p < n → IsContended d p → ⊥

there_below : {A : Type 0} (xs : List A) (p : ℕ) (P : A → Type 0) → IsSomeAnd (slice_get xs p) P → p < length xs
there_below [] p P h = absurd h
there_below (x ∷ xs) zero P h = omega arith
there_below (x ∷ xs) (suc p) P h = let below = there_below xs p P h in omega (arith, below)

module _ (d : Flat) (n : ℕ) where
  pub alone_next : AreAloneBelow d n → (IsContended d n → ⊥) → AreAloneBelow d (n + 1)
  alone_next before here p below h =
      elim (cases_eq p n) [
        | inl same ↦ here (subst (IsContended d) same h)
        | inr other ↦ before p (omega (arith, below, other)) h
      ]

  pub alone_all : AreAloneBelow d n → length d.tasks ≤ n → AreAlone d
  alone_all before past p h =
      let below = there_below d.tasks p (λ one. is_clocked one.does ≡ false) h.flows in
      before p (omega (arith, below, past)) h

  module _ (task : Task) (there : slice_get d.tasks n ≡ Some task) (again : Bool) (is : again ≡ true ↔ HasFault d n SeveralDrivers) where
    -- no fault
    pub single : again ≡ false → IsContended d n → ⊥
    single none h = both_ways again none (is.1 h.fault)

    -- a process that waits for edges
    pub waiting : is_clocked task.does ≡ true → IsContended d n → ⊥
    waiting waits h =
        true≢false (sym waits ∙ subst (λ o. IsSomeAnd o (λ one. is_clocked one.does ≡ false)) there h.flows)

    pub least_at : AreAloneBelow d n → again ≡ true → is_clocked task.does ≡ false → IsLeast (IsContended d) n
    least_at before some flows =
        record {
          holds = record { flows = subst (λ o. IsSomeAnd o (λ one. is_clocked one.does ≡ false)) (sym there) flows; fault = is.0 some };
          none_below = before;
        }
