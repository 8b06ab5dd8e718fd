-- A latch with a gate from outside, `module top (input g, d, output reg q); always @* if (g) q = d; endmodule`; and two that
-- are none: with `q <= d`, and beside another latch that is open at the other value of g.
use Rattle.std.proofs.Common.{◌≡◌, ◌∙◌, ◌==◌, ◌&&◌, ◌||◌, ◌≤◌, not, ℕ, zero, suc, Bool, true, false, List, [], ◌∷◌, Option, None, Some, refl, sym, ap, subst, inl, inr, arith}
use Rattle.std.specs.Prelude.{◌⊎◌}
use Rattle.std.proofs.lemmas.Bool.{and_parts, eqb-true, false≢true}
use Rattle.std.proofs.lemmas.Option.{none-some, same_Some}
use Rattle.rtl_bits.specs.declared.Bit.{Bit}
use Rattle.rtl_bits.specs.declared.Bit.TheVariants.{Zero, One}
use Rattle.rtl_bits.specs.Bits.{same_bit}
use Rattle.text_ground.specs.declared.text.Spot.{Spot}
use Rattle.rtl_flat.specs.declared.expr.Fold.TheVariants as fold
use Rattle.rtl_flat.specs.declared.signal.Signal.{Signal}
use Rattle.rtl_flat.specs.declared.signal.Kind.{Kind}
use Rattle.rtl_flat.specs.declared.signal.Kind.TheVariants.{TopInput, Var}
use Rattle.rtl_flat.specs.Expression.{Tree, Sized, Folded}
use Rattle.rtl_flat.specs.Expression as tree
use Rattle.rtl_flat.specs.Flats.{Flat, widths}
use Rattle.rtl_flat.specs.Flows.{actions_then, all_bits, body_flow, may_target, reads, targets}
use Rattle.rtl_flat.specs.Paths.{End, Flow, IsSureNow, Last, MayWrite, More, ReadsOutside, Write, every_way, writes_now}
use Rattle.rtl_flat.specs.Process.{Watched, Set, If, Actions, Done, Then, Without, Doing, Comb, Edge', Task}
use Rattle.rtl_flat.proofs.Paths.{decided}
use Rattle.event_model.specs.Queue.{doing_at}
use Rattle.net_model.specs.Control.{whole_of}
use Rattle.net_model.specs.Cycle.{opened}
use Rattle.net_model.specs.Solution.{IsLasting}
use Rattle.net_model.specs.Gates.{ComesFrom, Gate, IsAdmitted, IsGatedLatch, Itself, gate_test}

spot : Spot
spot = record { file = 0; at = 0 }

abbrev signal : Kind → Bool → Signal
signal kind shown =
    record { path = []; width = 1; signed = false; low = 0; kind = kind; top_output = shown; instance = 0; spot = spot }

abbrev bit_of : ℕ → Tree
bit_of i = Sized 1 false spot (tree.Whole i)

abbrev not_bit : ℕ → Tree
not_bit i = Sized 1 false spot (Folded fold.Negation (bit_of i))

-- `if (test) s = d;`, or with `<=`
abbrev store : Bool → ℕ → Actions
store delayed s = Then (Set (whole_of s spot) (bit_of 1) delayed spot) Done

abbrev body_with : Tree → Bool → ℕ → Actions
body_with test delayed s = Then (If test (store delayed s) Without spot) Done

abbrev task : Actions → Task
task body = record { does = Comb None body; instance = 0; spot = spot }

-- g, d, q and r
abbrev design_of : List Task → Flat
design_of tasks =
    record { signals = signal TopInput false ∷ signal TopInput false ∷ signal Var true ∷ signal Var true ∷ []; tasks = tasks }

abbrev gate_at : Bit → Gate
gate_at opens = record { signal = 0; input = 0; opens = opens }

-- ---- bits that are read and written

last : (b : Bool) → (b || false) ≡ true → b ≡ true
last true h = refl
last false h = absurd (false≢true h)

read_before : (t y z w : Bool) → (t || (((y || false) || (z && false)) || (w && false))) ≡ true → (t ≡ true) ⊎ (y ≡ true)
read_before true y z w h = inl refl
read_before false true z w h = inr refl
read_before false false true true h = absurd (false≢true h)
read_before false false true false h = absurd (false≢true h)
read_before false false false true h = absurd (false≢true h)
read_before false false false false h = absurd (false≢true h)

signal_is : (d : Flat) (s i k : ℕ) → all_bits (widths d) s i k ≡ true → i ≡ s
signal_is d s i k h = eqb-true i s (and_parts (i == s) _ h).0

module _ (d : Flat) (test : Tree) (s : ℕ) where
  abbrev Flow' : Flow
  Flow' = body_flow (widths d) (body_with test false s)

  written : (i k : ℕ) → MayWrite Flow' i k → all_bits (widths d) s i k ≡ true
  written i k may =
      let h = (decided Flow' i k).writes.1 may in
      last (all_bits (widths d) s i k) (last (all_bits (widths d) s i k || false) (last ((all_bits (widths d) s i k || false) || false) h))

  sure : (i k : ℕ) → MayWrite Flow' i k → IsSureNow (body_flow (widths d) (store false s)) i k
  sure i k may =
      (decided (body_flow (widths d) (store false s)) i k).sure_now.0
      (ap (λ b. (b || false) || false) (written i k may))

  outside : ((i k : ℕ) → reads (widths d) test i k ≡ true → i ≡ 0) → (i k : ℕ) → ReadsOutside Flow' i k → (i ≡ 0) ⊎ (i ≡ 1)
  outside tested i k read =
      elim (read_before (reads (widths d) test i k) (all_bits (widths d) 1 i k) (not (writes_now i k (Write false (may_target (widths d) (whole_of s spot)) (targets (widths d) (whole_of s spot)))))
      (not (every_way (writes_now i k) (More End (Last (actions_then (widths d) (store false s) End))))) ((decided Flow' i k).outside.1 read)) [
        | inl here ↦ inl (tested i k here)
        | inr later ↦ inr (signal_is d 1 i k later)
      ]

-- a process of this form is a latch with a gate
latch :
    (d : Flat) (p : ℕ) (test : Tree) (s : ℕ) (opens : Bit) → doing_at d p ≡ Some (Comb None (body_with test false s)) → gate_test test ≡ Some (0, opens) →
    ((i k : ℕ) → reads (widths d) test i k ≡ true → i ≡ 0) → widths d 0 ≡ 1 → ComesFrom d 0 0 → 2 ≤ s → all_bits (widths d) s s 0 ≡ true → IsLasting d s → IsGatedLatch d p (gate_at opens)
latch d p test s opens does tests tested one_bit comes past bit lasting =
    record {
      list = None;
      body = body_with test false s;
      test = test;
      branch = store false s;
      spot = spot;
      does = does;
      whole = refl;
      tests = tests;
      one_bit = one_bit;
      comes = comes;
      writes = sure d test s;
      holds = (s, 0, (decided (body_flow (widths d) (body_with test false s)) s 0).writes.0 (ap (λ b. ((b || false) || false) || false) bit), lasting);
      apart = λ i k read may. by i (signal_is d s i k (written d test s i k may)) (outside d test s tested i k read);
      list_apart = λ i k read may. false≢true read;
      once = λ k read. false≢true ((decided (body_flow (widths d) (store false s)) 0 k).reads.1 read);
      list_once = λ k read. false≢true read;
    }
  where
    by : (i : ℕ) → i ≡ s → (i ≡ 0) ⊎ (i ≡ 1) → ⊥
    by i same (inl e) = omega (arith, same, e, past)
    by i same (inr e) = omega (arith, same, e, past)

-- ---- a latch with a gate is admitted

abbrev latched : Flat
latched = design_of (task (body_with (bit_of 0) false 2) ∷ [])

abbrev is_comb : Option Doing → Bool
is_comb (Some (Comb list body)) = true
is_comb _ = false

no_edges : (p : ℕ) (events : List Watched) (body : Actions) → doing_at latched p ≡ Some (Edge' events body) → ⊥
no_edges zero events body h = false≢true (sym (ap is_comb h))
no_edges (suc p) events body h = none-some _ h

abbrev body_in : Option Doing → Actions
body_in (Some (Comb list body)) = body
body_in _ = Done

abbrev test_in : Actions → Tree
test_in (Then (If test branch Without _) Done) = test
test_in _ = bit_of 0

only : (q : ℕ) (other : Gate) → IsGatedLatch latched q other → other.opens ≡ One
only zero other is =
    let body : body_with (bit_of 0) false 2 ≡ is.body = ap body_in is.does in
    let test : bit_of 0 ≡ is.test = ap (λ (b : Actions). test_in (opened b)) body ∙ ap test_in is.whole in
    let tested : Some (0, One) ≡ Some (other.signal, other.opens) = ap gate_test test ∙ is.tests in
    sym (ap (λ (v : ℕ × Bit). v.1) (same_Some _ _ tested))
only (suc q) other is = absurd (none-some _ is.does)

admitted : IsAdmitted latched 0 (gate_at One)
admitted =
    record {
      latch = latch latched 0 (bit_of 0) 2 One refl refl (λ i k h. signal_is latched 0 i k h) refl (record { input = refl; goes = Itself }) (omega arith) refl (λ temporary. false≢true (sym temporary.of_process.inner));
      no_clock = λ clock. no_edges clock.edges.process clock.edges.events clock.edges.body clock.edges.does;
      alike = λ q other is same. only q other is;
    }

-- ---- with a nonblocking assignment it is none

abbrev late : Flat
late = design_of (task (body_with (bit_of 0) true 2) ∷ [])

abbrev branch_in : Actions → Actions
branch_in (Then (If test branch Without _) Done) = branch
branch_in _ = Done

not_late : (gate : Gate) → IsGatedLatch late 0 gate → ⊥
not_late gate is =
    let body : body_with (bit_of 0) true 2 ≡ is.body = ap body_in is.does in
    let branch : is.branch ≡ store true 2 = sym (ap (λ (b : Actions). branch_in (opened b)) body ∙ ap branch_in is.whole) in
    let may : MayWrite (body_flow (widths late) is.body) 2 0 =
    subst (λ (b : Actions). MayWrite (body_flow (widths late) b) 2 0) body ((decided (body_flow (widths late) (body_with (bit_of 0) true 2)) 2 0).writes.0 refl) in
    let sure = subst (λ (b : Actions). IsSureNow (body_flow (widths late) b) 2 0) branch (is.writes 2 0 may) in
    false≢true ((decided (body_flow (widths late) (store true 2)) 2 0).sure_now.1 sure)

-- ---- nor beside one that is open at the other value

abbrev opposed : Flat
opposed =
    design_of (task (body_with (bit_of 0) false 2) ∷ task (body_with (not_bit 0) false 3) ∷ [])

other_latch : IsGatedLatch opposed 1 (gate_at Zero)
other_latch =
    latch opposed 1 (not_bit 0) 3 Zero refl refl (λ i k h. signal_is opposed 0 i k h) refl (record { input = refl; goes = Itself }) (omega arith) refl (λ temporary. false≢true (sym temporary.of_process.inner))

not_opposed : IsAdmitted opposed 0 (gate_at One) → ⊥
not_opposed is =
    false≢true (ap (λ b. same_bit b One) (is.alike 1 (gate_at Zero) other_latch refl))
