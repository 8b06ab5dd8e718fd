-- The findings of signals that have places are those of the signals that break a rule.
use Rattle.std.proofs.Common.{ℕ, ◌≡◌, ◌∙◌, ◌<◌, ◌≤◌, ◌+◌, Bool, true, false, cond, List, [], ◌∷◌, length, map, append-nil, Option, Some, None, refl, sym, ap, subst, inl, inr, arith}
use Rattle.std.specs.List.{AllByRecursion, enumerate_from}
use Rattle.std.specs.List.Sorted.{IsStrictlySortedBy}
use Rattle.std.specs.Map.{lookup}
use Rattle.std.specs.Cmp.{nat_cmp_is}
use Rattle.std.specs.declared.cmp.Ordering.TheVariants.{Less, Equal, Greater}
use Rattle.std.specs.Ordering.{nat_cmp, is_eq}
use Rattle.std.specs.BTreeMap.{is_at}
use Rattle.std.proofs.lemmas.Bool.{cases_lt, cases_order, cases_Bool}
use Rattle.std.proofs.lemmas.Map.Keys.{sorted_head, sorted_tail}
use Rattle.text_ground.specs.declared.text.Spot.{Spot}
use Rattle.rtl_flat.specs.declared.signal.Signal.{Signal}
use Rattle.rtl_flat.specs.Process.{Task}
use Rattle.rtl_rule.specs.declared.finding.Finding.{Finding}
use Rattle.rtl_rule.specs.declared.rule.Rule.{Rule}
use Rattle.rtl_rule.specs.declared.rule.Rule.TheVariants.{BlockingState}
use Rattle.rtl_rule.specs.Parts.{At, within}
use Rattle.rtl_flat.specs.Flats.{Flat}
use Rattle.rtl_rule.specs.Sites.{AreFindings}
use Rattle.check_found.specs.Gathered.{Gets, signal_numbers, task_sites}
use Rattle.check_found.specs.Marked.{Shows, passing, shown}

abbrev Entries : Type 0
Entries = List (ℕ × Spot)

abbrev keys : Entries → List ℕ
keys es = map (λ (e : ℕ × Spot). e.0) es

abbrev at : ℕ → Entries → Option Spot
at s es = lookup (is_at (nat_cmp s)) es

less_from : (a b : ℕ) → nat_cmp a b ≡ Less → a < b
less_from a b h =
    elim (cases_order a b) [
      | inl e ↦ absurd (let is : Equal ≡ nat_cmp a b = nat_cmp_is a b Equal e in cc)
      | inr (inl below) ↦ below
      | inr (inr above) ↦ absurd (let is : Greater ≡ nat_cmp a b = nat_cmp_is a b Greater above in cc)
    ]

-- the first entry, where the key is its own, or past it
at_here : (e : ℕ × Spot) (es : Entries) → at e.0 (e ∷ es) ≡ Some e.1
at_here e es = ap (λ o. cond (is_eq o) (Some e.1) (at e.0 es)) (sym (nat_cmp_is e.0 e.0 Equal refl))

at_above : (s : ℕ) (e : ℕ × Spot) (es : Entries) → e.0 < s → at s (e ∷ es) ≡ at s es
at_above s e es above =
    ap (λ o. cond (is_eq o) (Some e.1) (at s es)) (sym (nat_cmp_is s e.0 Greater above))

at_below : (s : ℕ) (e : ℕ × Spot) (es : Entries) → s < e.0 → at s (e ∷ es) ≡ at s es
at_below s e es below =
    ap (λ o. cond (is_eq o) (Some e.1) (at s es)) (sym (nat_cmp_is s e.0 Less below))

-- no entry of a key below all
absent : (s : ℕ) (es : Entries) → AllByRecursion (λ y. s < y) (keys es) → at s es ≡ None
absent s [] h = refl
absent s (e ∷ es) h = at_below s e es h.0 ∙ absent s es h.1

above_all : (s n : ℕ) (es : Entries) → s ≤ n → AllByRecursion (λ y. nat_cmp n y ≡ Less) (keys es) → AllByRecursion (λ y. s < y) (keys es)
above_all s n [] under h = tt
above_all s n (e ∷ es) under h =
    let below = less_from n e.0 h.0 in (omega (arith, under, below), above_all s n es under h.1)

-- the keys are from a number on
abbrev From : ℕ → Entries → Type 0
From k [] = Unit {0}
From k (e ∷ es) = k ≤ e.0

from_next : (k n : ℕ) (es : Entries) → k ≤ n → AllByRecursion (λ y. nat_cmp n y ≡ Less) (keys es) → From (k + 1) es
from_next k n [] under h = tt
from_next k n (e ∷ es) under h =
    let below = less_from n e.0 h.0 in omega (arith, under, below)

module _ (P : At ℕ → Type 0) (finding_at : At ℕ → Finding) (rule : Rule) (instance : ℕ) (one : ℕ × Task) where
  -- what the place of a signal, or none, says of it
  abbrev pub Tells : ℕ → Option Spot → Type 0
  Tells s None = P (within one s) → ⊥
  Tells s (Some spot) = P (within one s) × (finding_at (within one s) ≡ shown rule instance (s, spot))

  module _ (n : ℕ) (bound : (s : ℕ) → P (within one s) → s < n) where
    shown_from : (signals : List Signal) (k : ℕ) (es : Entries) → k + length signals ≡ n → From k es → IsStrictlySortedBy nat_cmp (keys es) → ((s : ℕ) → k ≤ s → Tells s (at s es)) → AreFindings P finding_at (map (within one) (map (λ (x : ℕ × Signal). x.0) (enumerate_from k signals))) (map (shown rule instance) es)
    shown_from [] k [] size from sorted tells = record { broken = []; those = refl; shown = refl }
    shown_from [] k (e ∷ es) size from sorted tells =
        let breaks : P (within one e.0) = (subst (Tells e.0) (at_here e es) (tells e.0 from)).0 in
        let below = bound e.0 breaks in
        absurd (omega (arith, below, size, from))
    shown_from (x ∷ signals) k [] size from sorted tells =
        let rest = shown_from signals (k + 1) [] (omega (arith, size)) tt sorted (λ s above. tells s (omega (arith, above))) in
        record { broken = rest.broken; those = inr (tells k (omega arith), rest.those); shown = rest.shown }
    shown_from (x ∷ signals) k (e ∷ es) size from sorted tells =
        let head = sorted_head nat_cmp e.0 (keys es) sorted in
        elim (cases_lt k e.0) [
          | inl below ↦
              let rest = shown_from signals (k + 1) (e ∷ es) (omega (arith, size)) (omega (arith, below)) sorted (λ s above. tells s (omega (arith, above))) in
              let none : at k (e ∷ es) ≡ None = absent k (e ∷ es) (below, above_all k e.0 es from head) in
              record { broken = rest.broken; those = inr (subst (Tells k) none (tells k (omega arith)), rest.those); shown = rest.shown }
          | inr above ↦
              let same : e.0 ≡ k = omega (arith, from, above) in
              let rest = shown_from signals (k + 1) es (omega (arith, size)) (from_next k e.0 es from head) (sorted_tail nat_cmp e.0 (keys es) sorted) (λ s later. subst (Tells s) (at_above s e es (omega (arith, same, later))) (tells s (omega (arith, later)))) in
              let here = subst (λ s. P (within one s) × (finding_at (within one s) ≡ shown rule instance (s, e.1))) same (subst (Tells e.0) (at_here e es) (tells e.0 from)) in
              record {
                broken = within one k ∷ rest.broken;
                those = inl (here.0, rest.broken, refl, rest.those);
                shown = ap (λ s. shown rule instance (s, e.1) ∷ map (shown rule instance) es) same ∙ ap (λ f. f ∷ map (shown rule instance) es) (sym here.1) ∙ ap (λ fs. finding_at (within one k) ∷ fs) rest.shown;
              }
        ]

    abbrev signals_in : List Signal → List (At ℕ)
    signals_in signals = map (within one) (map (λ (x : ℕ × Signal). x.0) (enumerate_from 0 signals))

-- what is shown of signals is what a rule finds of them
pub gets_shown : (P : At ℕ → Type 0) (finding_at : At ℕ → Finding) (rule : Rule) (instance : ℕ) (d : Flat) (n : ℕ) (task : Task) → ((s : ℕ) → P (within (n, task) s) → s < length d.signals) → (marks : ℕ → Option Spot) → ((s : ℕ) → Tells P finding_at rule instance (n, task) s (marks s)) → (old new : List Finding) → Shows rule instance marks old new → Gets P finding_at (task_sites (signal_numbers d) n task) old new
gets_shown P finding_at rule instance d n task bound marks tells old new shows =
    record {
      more = map (shown rule instance) shows.entries;
      added = shows.is;
      are = shown_from P finding_at rule instance (n, task) (length d.signals) bound d.signals 0 shows.entries (omega arith) (from_none shows.entries) shows.sorted
          (λ s from. subst (Tells P finding_at rule instance (n, task) s) (sym (shows.each s)) (tells s));
    }
  where
    from_none : (es : Entries) → From 0 es
    from_none [] = tt
    from_none (e ∷ es) = omega arith

-- ---- entries that pass a test

module _ (test : ℕ → Bool) where
  pass_above : (n : ℕ) (es : Entries) → AllByRecursion (λ y. nat_cmp n y ≡ Less) (keys es) → AllByRecursion (λ y. nat_cmp n y ≡ Less) (keys (passing test es))
  pass_above n [] h = tt
  pass_above n (e ∷ es) h =
      elim (cases_Bool (test e.0)) as (λ _. AllByRecursion (λ y. nat_cmp n y ≡ Less) (keys (cond (test e.0) (e ∷ passing test es) (passing test es)))) [
        | inl passes ↦ rw passes (h.0, pass_above n es h.1)
        | inr fails ↦ rw fails (pass_above n es h.1)
      ]

  pub pass_sorted : (es : Entries) → IsStrictlySortedBy nat_cmp (keys es) → IsStrictlySortedBy nat_cmp (keys (passing test es))
  unfolding IsStrictlySortedBy
  pass_sorted [] h = tt
  pass_sorted (e ∷ es) h =
      elim (cases_Bool (test e.0)) as (λ _. IsStrictlySortedBy nat_cmp (keys (cond (test e.0) (e ∷ passing test es) (passing test es)))) [
        | inl passes ↦ rw passes (pass_above e.0 es h.0, pass_sorted es h.1)
        | inr fails ↦ rw fails (pass_sorted es h.1)
      ]

-- the key that a look-up finds
pub key_at : (s k : ℕ) → is_at (nat_cmp s) k ≡ true → k ≡ s
key_at s k h =
    elim (cases_order s k) [
      | inl e ↦ sym e
      | inr (inl below) ↦ absurd (let e : false ≡ true = ap is_eq (nat_cmp_is s k Less below) ∙ h in cc)
      | inr (inr above) ↦ absurd (let e : false ≡ true = ap is_eq (nat_cmp_is s k Greater above) ∙ h in cc)
    ]

-- a process whose signals don't break a rule
pub gets_no : (P : At ℕ → Type 0) (finding_at : At ℕ → Finding) (d : Flat) (n : ℕ) (task : Task) → ((s : ℕ) → P (within (n, task) s) → ⊥) → (old : List Finding) → Gets P finding_at (task_sites (signal_numbers d) n task) old old
unfolding IsStrictlySortedBy
gets_no P finding_at d n task never old =
    gets_shown P finding_at BlockingState 0 d n task (λ s breaks. absurd (never s breaks)) (λ s. None) never old old
    (record { entries = []; sorted = tt; each = λ s. refl; is = sym (append-nil old) })
