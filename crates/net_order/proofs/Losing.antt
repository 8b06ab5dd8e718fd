-- Signals of processes that have no depth.
use Rattle.std.specs.Prelude.{◌⊎◌, ◌↔◌, cond, nat_lt, if◌then◌else◌}
use Rattle.std.proofs.Common.{ℕ, zero, suc, ◌≡◌, ◌∙◌, ◌<◌, ◌≤◌, ◌+◌, arith, Bool, true, false, List, [], ◌∷◌, length, get_or, Option, Some, None, refl, sym, ap, subst, inl, inr}
use Rattle.std.specs.List.{slice_get}
use Rattle.std.proofs.lemmas.Bool.{cases_Bool, cases_lt, cond-false, cond-true, false≢true, lt-ltb, ltb-true}
use Rattle.rtl_flat.specs.declared.expr.SigId.{SigId}
use Rattle.rtl_flat.specs.declared.signal.Signal.{Signal}
use Rattle.rtl_flat.specs.Flows.{flow_of}
use Rattle.rtl_flat.specs.Levels.{IsNode}
use Rattle.rtl_flat.specs.Paths.{MayWrite}
use Rattle.rtl_flat.specs.Process.{Task}
use Rattle.rtl_flat.specs.Signs.{width_in}
use Rattle.rtl_flat.proofs.Paths.{decided}
use Rattle.rtl_rule.specs.Parts.{first_below, first_of, has_some, number, some_below, written}
use Rattle.rtl_flat.specs.Flats.{Flat, widths}
use Rattle.check_found.proofs.rtl_scan_proofs.Processes.{back, there}
use Rattle.check_found.proofs.Inside.{written_inside}
use Rattle.rtl_rule.proofs.Below.{some_at, some_found}
use Rattle.net_order.specs.Ranks.{IsLeastOf, IsLost, lesser_of}

-- ---- the least of two

least_as : (P Q : ℕ → Type 0) (o : Option SigId) → ((s : ℕ) → P s ↔ Q s) → IsLeastOf P o → IsLeastOf Q o
least_as P Q None same h = λ s is. h s ((same s).1 is)
least_as P Q (Some first) same h = ((same first.0).0 h.0, λ s is. h.1 s ((same s).1 is))

least_either : (P Q : ℕ → Type 0) (a b : Option SigId) → IsLeastOf P a → IsLeastOf Q b → IsLeastOf (λ s. P s ⊎ Q s) (lesser_of a b)
least_either P Q None None p q = λ s is. elim is as (λ _. ⊥) [ inl one ↦ p s one | inr other ↦ q s other ]
least_either P Q None (Some b) p q = (inr q.0, λ s is. elim is as (λ _. b.0 ≤ s) [ inl one ↦ absurd (p s one) | inr other ↦ q.1 s other ])
least_either P Q (Some a) None p q = (inl p.0, λ s is. elim is as (λ _. a.0 ≤ s) [ inl one ↦ p.1 s one | inr other ↦ absurd (q s other) ])
least_either P Q (Some a) (Some b) p q = by (nat_lt b.0 a.0) refl
  where
    by : (less : Bool) → nat_lt b.0 a.0 ≡ less → IsLeastOf (λ s. P s ⊎ Q s) (if less then Some b else Some a)
    by true is = (
      inr q.0,
      λ s either. elim either as (λ _. b.0 ≤ s) [
        | inl one ↦ let le = p.1 s one in let less = ltb-true b.0 a.0 is in omega (arith, le, less)
        | inr other ↦ q.1 s other
      ],
    )
    by false is = (
      inl p.0,
      λ s either. elim either as (λ _. a.0 ≤ s) [
        | inl one ↦ p.1 s one
        | inr other ↦
            let le = q.1 s other in
            elim (cases_lt b.0 a.0) as (λ _. a.0 ≤ s) [
              | inl less ↦ absurd (false≢true (sym is ∙ lt-ltb b.0 a.0 less))
              | inr none ↦ omega (arith, le, none)
            ]
      ],
    )

-- ---- the least of some numbers

abbrev Below : ℕ → (ℕ → Bool) → ℕ → Type 0
Below n test k = (k < n) × (test k ≡ true)

first_is : (n : ℕ) (test : ℕ → Bool) → IsLeastOf (Below n test) (first_below n test)
first_is zero test = λ s is. absurd (let less = is.0 in omega (arith, less))
first_is (suc n) test =
    elim (cases_Bool (some_below n test)) as (λ _. IsLeastOf (Below (suc n) test) (first_below (suc n) test)) [
      | inl some ↦
          let found = some_found n test some in
          subst (λ (o : Option SigId). IsLeastOf (Below (suc n) test) o) (sym (cond-true (some_below n test) (first_below n test) (cond (test n) (number n) None) some))
          (before (first_below n test) found.number found.below found.is (first_is n test))
      | inr none ↦
          subst (λ (o : Option SigId). IsLeastOf (Below (suc n) test) o) (sym (cond-false (some_below n test) (first_below n test) (cond (test n) (number n) None) none))
          (here none (test n) refl)
    ]
  where
    before : (o : Option SigId) (k : ℕ) → k < n → test k ≡ true → IsLeastOf (Below n test) o → IsLeastOf (Below (suc n) test) o
    before None k below is h = absurd (h k (below, is))
    before (Some first) k below is h =
        let less = h.0.0 in (
          (omega (arith, less), h.0.1),
          λ s it.
              elim (cases_lt s n) as (λ _. first.0 ≤ s) [
                | inl under ↦ h.1 s (under, it.1)
                | inr over ↦ omega (arith, less, over)
              ],
        )

    here : some_below n test ≡ false → (b : Bool) → test n ≡ b → IsLeastOf (Below (suc n) test) (cond b (number n) None)
    here none true is = (
      (omega arith, is),
      λ s it. elim (cases_lt s n) as (λ _. n ≤ s) [
        | inl under ↦ absurd (false≢true (sym none ∙ some_at n test s under it.1))
        | inr over ↦ over
      ],
    )
    here none false is = λ s it. elim (cases_lt s n) as (λ _. ⊥) [
      | inl under ↦ false≢true (sym none ∙ some_at n test s under it.1)
      | inr over ↦
          let less = it.0 in
          let e : s ≡ n = omega (arith, less, over) in
          false≢true (sym is ∙ (ap test (sym e) ∙ it.1))
    ]

signal_there : (signals : List Signal) (s k : ℕ) → k < width_in signals s → s < length signals
signal_there [] s k h = absurd (omega (arith, h))
signal_there (x ∷ signals) zero k h = omega arith
signal_there (x ∷ signals) (suc s) k h = let below = signal_there signals s k h in omega (arith, below)

-- the least signal that a process may write
first_written : (d : Flat) (task : Task) → IsLeastOf (λ s. (k : ℕ) × MayWrite (flow_of (widths d) task.does) s k) (first_of d (written d task.does))
first_written d task =
    least_as (Below (length d.signals) (has_some (widths d) (written d task.does))) (λ s. (k : ℕ) × MayWrite (flow_of (widths d) task.does) s k) (first_of d (written d task.does)) (λ s. (to s, from s)) (first_is (length d.signals) (has_some (widths d) (written d task.does)))
  where
    to : (s : ℕ) → Below (length d.signals) (has_some (widths d) (written d task.does)) s → (k : ℕ) × MayWrite (flow_of (widths d) task.does) s k
    to s h =
        let found = some_found (widths d s) (written d task.does s) h.1 in
        (found.number, (decided (flow_of (widths d) task.does) s found.number).writes.0 found.is)

    from : (s : ℕ) → (k : ℕ) × MayWrite (flow_of (widths d) task.does) s k → Below (length d.signals) (has_some (widths d) (written d task.does)) s
    from s (k, may) =
        let is = (decided (flow_of (widths d) task.does) s k).writes.1 may in
        let inside = written_inside (widths d) task.does s k is in
        (signal_there d.signals s k inside, some_at (widths d s) (written d task.does s) k inside is)

-- ---- process by process

module _ (d : Flat) (depths : List (Option ℕ)) where
  abbrev Lost : ℕ → ℕ → Type 0
  Lost n s = IsLost d.signals d.tasks depths n s

  pub lost_none : IsLeastOf (Lost 0) None
  lost_none s lost = let below = lost.below in omega (arith, below)

  more : (n s : ℕ) → Lost n s → Lost (n + 1) s
  more n s lost = record {
    process = lost.process;
    below = let less = lost.below in omega (arith, less);
    node = lost.node;
    none = lost.none;
    bit = lost.bit;
    written = lost.written;
  }

  fewer : (n s : ℕ) (lost : Lost (n + 1) s) → lost.process < n → Lost n s
  fewer n s lost below = record {
    process = lost.process;
    below = below;
    node = lost.node;
    none = lost.none;
    bit = lost.bit;
    written = lost.written;
  }

  last : (n s : ℕ) (lost : Lost (n + 1) s) → (lost.process < n) ⊎ (lost.process ≡ n)
  last n s lost =
      let below = lost.below in
      elim (cases_lt lost.process n) as (λ _. (lost.process < n) ⊎ (lost.process ≡ n)) [
        | inl less ↦ inl less
        | inr over ↦ inr (omega (arith, below, over))
      ]

  -- a process that has a depth, or an edge
  pub lost_same : (n : ℕ) (least : Option SigId) → (IsNode d.tasks n → get_or depths n None ≡ None → ⊥) → IsLeastOf (Lost n) least → IsLeastOf (Lost (n + 1)) least
  lost_same n least not_this h =
      least_as (Lost n) (Lost (n + 1)) least (λ s. (
        more n s,
        λ lost.
            elim (last n s lost) as (λ _. Lost n s) [
              | inl below ↦ fewer n s lost below
              | inr e ↦ absurd (not_this (subst (λ (p : ℕ). IsNode d.tasks p) e lost.node) (ap (λ p. get_or depths p None) (sym e) ∙ lost.none))
            ],
      )) h

  -- one that has none
  pub lost_more : (n : ℕ) (task : Task) → slice_get d.tasks n ≡ Some task → IsNode d.tasks n → get_or depths n None ≡ None → (least first new : Option SigId) → first ≡ first_of d (written d task.does) → new ≡ lesser_of least first → IsLeastOf (Lost n) least → IsLeastOf (Lost (n + 1)) new
  lost_more n task at node none least first new is made h =
      subst (λ (o : Option SigId). IsLeastOf (Lost (n + 1)) o) (sym (made ∙ ap (lesser_of least) is))
      (least_as (λ s. Lost n s ⊎ ((k : ℕ) × MayWrite (flow_of (widths d) task.does) s k)) (Lost (n + 1)) (lesser_of least (first_of d (written d task.does))) (λ s. (to s, from s))
      (least_either (Lost n) (λ s. (k : ℕ) × MayWrite (flow_of (widths d) task.does) s k) least (first_of d (written d task.does)) h (first_written d task)))
    where
      to : (s : ℕ) → Lost n s ⊎ ((k : ℕ) × MayWrite (flow_of (widths d) task.does) s k) → Lost (n + 1) s
      to s (inl lost) = more n s lost
      to s (inr (k, may)) = record {
        process = n;
        below = omega arith;
        node = node;
        none = none;
        bit = k;
        written = there (λ t. MayWrite (flow_of (widths d) t.does) s k) d.tasks n task at may;
      }

      from : (s : ℕ) → Lost (n + 1) s → Lost n s ⊎ ((k : ℕ) × MayWrite (flow_of (widths d) task.does) s k)
      from s lost =
          elim (last n s lost) as (λ _. Lost n s ⊎ ((k : ℕ) × MayWrite (flow_of (widths d) task.does) s k)) [
            | inl below ↦ inl (fewer n s lost below)
            | inr e ↦ inr (lost.bit, back (λ t. MayWrite (flow_of (widths d) t.does) s lost.bit) d.tasks n lost.process task at e lost.written)
          ]
