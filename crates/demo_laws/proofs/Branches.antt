-- What the parts of a chain read before they write it, and what they may write late, is so of the whole body.
use Rattle.std.proofs.Common.{◌≡◌, ℕ, true, ◌||◌, List, [], ◌∷◌, refl, sym, subst}
use Rattle.std.proofs.lemmas.Bool.{or_left, or_right}
use Rattle.rtl_flat.specs.Flows.{body_flow, reads}
use Rattle.rtl_flat.specs.Paths.{first, may_write_late, reads_bit, writes_now}
use Rattle.rtl_flat.specs.Process.{Set, If, Case, Block, Actions, Done, Then, With}
use Rattle.net_model.specs.Cycle.{Guard, IsChained, opened}
use Rattle.demo_clean.proofs.net_laws_proofs.Parts.{Gives, other_gives, taken_gives}
use Rattle.rtl_rule.proofs.Lists.{Each}
use Rattle.demo_laws.proofs.Sure.{Reads}

opened_flow : (ws : ℕ → ℕ) (body : Actions) → body_flow ws (opened body) ≡ body_flow ws body
opened_flow ws Done = refl
opened_flow ws (Then (Set target e delayed spot) others) = refl
opened_flow ws (Then (If test taken other spot) others) = refl
opened_flow ws (Then (Case kind full parallel selector branches fallback spot) others) = refl
opened_flow ws (Then (Block body) Done) = opened_flow ws body
opened_flow ws (Then (Block body) (Then one others)) = refl

-- a body takes bits of a set alone from outside, and gives bits of the set alone late
pub record IsSafe (ws : ℕ → ℕ) (P : ℕ → ℕ → Type 0) (body : Actions) : Type 0 where
  pub reads_outside : Reads P (body_flow ws body)
  pub late : Gives may_write_late P (body_flow ws body)

module _ (ws : ℕ → ℕ) (P : ℕ → ℕ → Type 0) where
  abbrev IsSafeGuard : Guard → Type 0
  IsSafeGuard guard = IsSafe ws P guard.branch

  by_flow : (one other : Actions) → body_flow ws one ≡ body_flow ws other → IsSafe ws P one → IsSafe ws P other
  by_flow one other same safe = record {
    reads_outside = subst (λ flow. Reads P flow) same safe.reads_outside;
    late = subst (λ flow. Gives may_write_late P flow) same safe.late;
  }

  pub chain_safe : (resets : List Guard) (part body : Actions) → IsChained resets part body → IsSafe ws P body → Each IsSafeGuard resets × IsSafe ws P part
  chain_safe [] part body chained safe = (tt, subst (IsSafe ws P) chained safe)
  chain_safe (guard ∷ others) part body (other, spot, is, rest) safe =
      let whole = Then (If guard.test guard.branch (With other) spot) Done in
      let own : IsSafe ws P whole = subst (IsSafe ws P) is (by_flow body (opened body) (sym (opened_flow ws body)) safe) in
      let inner : (i k : ℕ) → (first (reads_bit i k) (writes_now i k) (body_flow ws other) || first (reads_bit i k) (writes_now i k) (body_flow ws guard.branch)) ≡ true → P i k
      = λ i k h. own.reads_outside i k (or_right (reads ws guard.test i k) _ (or_left (first (reads_bit i k) (writes_now i k) (body_flow ws other) || first (reads_bit i k) (writes_now i k) (body_flow ws guard.branch)) _ h)) in
      let taken : IsSafe ws P guard.branch = record {
        reads_outside = λ i k h. inner i k (or_right (first (reads_bit i k) (writes_now i k) (body_flow ws other)) _ h);
        late = taken_gives ws may_write_late P guard.test guard.branch (With other) spot own.late;
      } in
      let left : IsSafe ws P other = record {
        reads_outside = λ i k h. inner i k (or_left (first (reads_bit i k) (writes_now i k) (body_flow ws other)) _ h);
        late = other_gives ws may_write_late P guard.test guard.branch (With other) spot own.late;
      } in
      let more = chain_safe others part other rest left in
      ((taken, more.0), more.1)
