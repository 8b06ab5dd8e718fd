-- Signals that no finding compares.
use Rattle.std.proofs.Common.{◌≡◌, ◌∙◌, ◌||◌, ◌<◌, ◌+◌, ℕ, zero, suc, Bool, true, false, not, List, [], ◌∷◌, ◌++◌, length, get_or, drop, Some, refl, sym, ap, subst, inl, inr, arith}
use Rattle.std.specs.Prelude.{◌⊎◌}
use Rattle.std.specs.List.{slice_get}
use Rattle.std.proofs.lemmas.Bool.{false≢true, or_left, or_right}
use Rattle.std.proofs.lemmas.Option.{same_Some}
use Rattle.std.proofs.lemmas.List.{at_drop_more, length-append}
use Rattle.rtl_rule.specs.declared.finding.Finding.{Finding}
use Rattle.demo_replay.specs.declared.setup.Setup.{Setup as Kept}
use Rattle.demo_replay.specs.Tables.{AreSkipped, compared, is_compared_for_some, is_marked, skips}

some_of : (kept : Kept) (clocked : List Bool) (findings : List Finding) (k : ℕ) (finding : Finding) → slice_get findings k ≡ Some finding → (s : ℕ) → compared kept clocked finding s ≡ true → is_compared_for_some kept clocked findings s ≡ true
some_of kept clocked [] k finding at s h = absurd (cc)
some_of kept clocked (first ∷ findings) zero finding at s h =
    or_left (compared kept clocked first s) (is_compared_for_some kept clocked findings s)
    (subst (λ (one : Finding). compared kept clocked one s ≡ true) (sym (same_Some first finding at)) h)
some_of kept clocked (first ∷ findings) (suc k) finding at s h =
    or_right (compared kept clocked first s) (is_compared_for_some kept clocked findings s) (some_of kept clocked findings k finding at s h)

-- the next finding doesn't compare it
pub next_some : (kept : Kept) (clocked : List Bool) (findings : List Finding) (s i : ℕ) (filler : Finding) → i < length findings → compared kept clocked (get_or findings i filler) s ≡ false → is_compared_for_some kept clocked (drop (i + 1) findings) s ≡ is_compared_for_some kept clocked (drop i findings) s
next_some kept clocked findings s i filler inside none =
    let some : List Finding → Bool = λ (all : List Finding). is_compared_for_some kept clocked all s in
    sym (at_drop_more some findings i filler inside ∙ ap (λ b. b || some (drop (i + 1) findings)) none)

pushed : (marks : List Bool) (b : Bool) (s : ℕ) → is_marked (marks ++ (b ∷ [])) s ≡ true → (is_marked marks s ≡ true) ⊎ ((s ≡ length marks) × (b ≡ true))
pushed [] b zero h = inr (refl, h)
pushed [] b (suc s) h = absurd (false≢true h)
pushed (mark ∷ marks) b zero h = inl h
pushed (mark ∷ marks) b (suc s) h =
    elim (pushed marks b s h) [
      | inl before ↦ inl before
      | inr last ↦ inr (ap suc last.0, last.1)
    ]

true_of : (b : Bool) → not b ≡ true → b ≡ false
true_of true h = absurd (false≢true h)
true_of false h = refl

false_of : (b : Bool) → (b ≡ true → ⊥) → b ≡ false
false_of true h = absurd (h refl)
false_of false h = refl

module _ (kept : Kept) (clocked : List Bool) (findings : List Finding) where
  as_many : (n : ℕ) → length (skips kept clocked findings n) ≡ n
  as_many zero = refl
  as_many (suc n) =
      let one = not (is_compared_for_some kept clocked findings n) ∷ [] in
      let whole = length-append (skips kept clocked findings n) one in
      let others = as_many n in
      omega (arith, whole, others)

  marked_none : (n s : ℕ) → is_marked (skips kept clocked findings n) s ≡ true → is_compared_for_some kept clocked findings s ≡ false
  marked_none zero s h = absurd (false≢true h)
  marked_none (suc n) s h =
      elim (pushed (skips kept clocked findings n) (not (is_compared_for_some kept clocked findings n)) s h) [
        | inl before ↦ marked_none n s before
        | inr last ↦ subst (λ m. is_compared_for_some kept clocked findings m ≡ false) (sym (last.0 ∙ as_many n)) (true_of (is_compared_for_some kept clocked findings n) last.1)
      ]

  -- what is compared for some finding isn't marked
  pub are_skipped : (n : ℕ) → AreSkipped kept clocked findings (skips kept clocked findings n)
  are_skipped n k finding at s h =
      false_of (is_marked (skips kept clocked findings n) s)
      (λ is. false≢true (sym (marked_none n s is) ∙ some_of kept clocked findings k finding at s h))
