-- `module top (input g, d, output reg q); always @* if (g) q = d;`: a latch with a gate meets the conditions of clean designs. It is
-- brought up open, and from there it closes, holds while d changes, and opens again.
use Rattle.std.proofs.Common.{◌≡◌, ◌≢◌, ◌∙◌, ◌<◌, ◌==◌, ◌&&◌, ◌||◌, ◌⊎◌, ℕ, not, zero, suc, Bool, true, false, List, [], ◌∷◌, length, map, Option, None, Some, IsSome, refl, sym, ap, subst, inl, inr, arith}
use Rattle.std.specs.Prelude.{IsTrue, nat_le, nat_lt}
use Rattle.std.specs.List.{All, list_any, slice_index_or}
use Rattle.std.proofs.lemmas.Bool.{and_parts, eqb-true, false≢true, ltb-true, true≢false}
use Rattle.std.proofs.lemmas.List.Elements.{All-cons, All-nil}
use Rattle.rtl_bits.specs.declared.Bit.{Bit}
use Rattle.rtl_bits.specs.declared.Bit.TheVariants.{Zero, One, X, Z}
use Rattle.rtl_bits.specs.declared.Edge.TheVariants as edge
use Rattle.rtl_bits.specs.Bit.{is_one}
use Rattle.rtl_bits.specs.Bits.{same_bit, truth_bit}
use Rattle.text_ground.specs.declared.text.Spot.{Spot}
use Rattle.rtl_flat.specs.declared.signal.Signal.{Signal}
use Rattle.rtl_flat.specs.declared.signal.Kind.{Kind}
use Rattle.rtl_flat.specs.declared.signal.Kind.TheVariants.{TopInput, Var}
use Rattle.rtl_flat.specs.Expression.{Tree, Sized}
use Rattle.rtl_flat.specs.Expression as tree
use Rattle.rtl_flat.specs.Flows.{all_bits, body_flow, flow_of}
use Rattle.rtl_flat.specs.Levels.{IsArrow}
use Rattle.rtl_flat.specs.Paths.{End, Flow, IsSure, IsSureNow, Last, MayRead, MayWrite, MayWriteLate, More, ReadsOutside, every_way, writes_now}
use Rattle.rtl_flat.specs.PathSets.{OfProcess}
use Rattle.rtl_flat.specs.Process.{Set, If, Actions, Assign, Done, Then, Without, Doing, Comb, Edge', Piece, Task, Watched}
use Rattle.rtl_flat.specs.Process as part
use Rattle.rtl_flat.specs.Signs.{Has, IsExpression}
use Rattle.rtl_flat.specs.Value.{value}
use Rattle.rtl_flat.specs.WellFormed.{IsAssignment, IsProcess, IsSelection}
use Rattle.rtl_flat.specs.Flats.{Flat, widths}
use Rattle.rtl_flat.proofs.Paths.{decided}
use Rattle.event_model.specs.Queue.{State, Input, Run, IsAtRest, doing_at, doing_of, is_assignment, is_input, power_up, run}
use Rattle.event_model.specs.Writes.{Values}
use Rattle.event_edges.specs.event_laws.Steady.{AreLawful}
use Rattle.event_edges.proofs.event_laws_proofs.Steady.{lawful_processes}
use Rattle.event_edges.proofs.event_laws_proofs.Within.{may_read_outside}
use Rattle.net_model.specs.declared.fill.Fill.{Fill}
use Rattle.net_model.specs.Control.{Here, IsClockOrReset, IsReached, whole_of}
use Rattle.net_model.specs.Control as control
use Rattle.net_model.specs.Cycle.{Chain, Data, Setting, Step, Turn, opened, settings}
use Rattle.net_model.specs.Gates.{Gate, GoesTo, IsAdmitted, IsDataInput, IsGatedLatch, IsGateInput, Itself, Through, gate_test}
use Rattle.net_model.specs.Lawful.{AreLawfulSteps, SetsData}
use Rattle.net_model.specs.Numbers.{bit}
use Rattle.net_model.specs.Solution.{IsLasting, IsRegisterBit}
use Rattle.event_edges.specs.event_runs.Plain.{IsPlain}
use Rattle.event_edges.specs.Synchronous.{IsSynchronous}
use Rattle.event_gates.specs.Gates.{AreFed, IsShutter, MayShut}
use Rattle.net_rest.specs.net_laws.Tame.{HasFirmIndex}
use Rattle.net_rest.specs.Rest.{IsComputed, IsComputing, IsGated, IsSolvable}
use Rattle.net_rest.proofs.Latches.{closed_makes}
use Rattle.sign_cycles.specs.Agree.{Agree, AreFollowed, AreRuns, IsNext, IsSettledKnown, after_offer}
use Rattle.sign_cycles.specs.BringUp.{BringsUp, IsBringUp, SetsInput, given_by}
use Rattle.sign_cycles.specs.BringUp.{sets as is_set}
use Rattle.sign_cycles.specs.Formed.{IsCleanClocked, IsGateAlone}
use Rattle.sign_cycles.specs.PowerUp.{CanAllWake, CanWake}
use Rattle.sign_cycles.proofs.BringUp.{brings_up}
use Rattle.sign_cycles.proofs.Register.{set_to}
use Rattle.sign_cycles.proofs.Settled.{input_lasts}
use Rattle.sign_cycles.proofs.Steps.{agreement}

spot : Spot
spot = record { file = 0; at = 0 }

abbrev signal : Kind → Bool → Signal
signal kind output =
    record { path = []; width = 1; signed = false; low = 0; kind = kind; top_output = output; instance = 0; spot = spot }

abbrev bit_of : ℕ → Tree
bit_of i = Sized 1 false spot (tree.Whole i)

abbrev branch : Actions
branch = Then (Set (whole_of 2 spot) (bit_of 1) false spot) Done

abbrev body : Actions
body = Then (If (bit_of 0) branch Without spot) Done

-- g, d and q
abbrev design : Flat
design =
    record {
      signals = signal TopInput false ∷ signal TopInput false ∷ signal Var true ∷ [];
      tasks = record { does = Comb None body; instance = 0; spot = spot } ∷ [];
    }

abbrev flow : Flow
flow = body_flow (widths design) body

abbrev branch_flow : Flow
branch_flow = body_flow (widths design) branch

-- ---- what it reads and writes

three : (a : Bool) → (((a || false) || false) || false) ≡ true → a ≡ true
three true h = refl
three false h = h

two : (a : Bool) → ((a || false) || false) ≡ true → a ≡ true
two true h = refl
two false h = h

either_of : (a b c e : Bool) → (a || (((b || false) || (c && false)) || (e && false))) ≡ true → (a ≡ true) ⊎ (b ≡ true)
either_of true b c e h = inl refl
either_of false true c e h = inr refl
either_of false false true true h = absurd (false≢true h)
either_of false false true false h = absurd (false≢true h)
either_of false false false true h = absurd (false≢true h)
either_of false false false false h = absurd (false≢true h)

-- a bit of a signal of one bit
bit_is : (j i k : ℕ) → widths design j ≡ 1 → all_bits (widths design) j i k ≡ true → (i ≡ j) × (k ≡ 0)
bit_is j i k one h =
    let parts = and_parts (i == j) _ h in
    let inside = ltb-true k (widths design j) (and_parts (nat_lt k (widths design j)) _ (and_parts (nat_le 0 k) _ parts.1).1).0 in
    (eqb-true i j parts.0, omega (arith, inside, one))

-- q alone is written
written_is : (i k : ℕ) → MayWrite flow i k → (i ≡ 2) × (k ≡ 0)
written_is i k h = bit_is 2 i k refl (three (all_bits (widths design) 2 i k) ((decided flow i k).writes.1 h))

read_is : (i k : ℕ) → ReadsOutside flow i k → (i ≡ 0) ⊎ (i ≡ 1)
read_is i k h =
    elim (either_of (all_bits (widths design) 0 i k) (all_bits (widths design) 1 i k) _ (not (every_way (writes_now i k) (More End (Last branch_flow)))) ((decided flow i k).outside.1 h)) [
      | inl g ↦ inl (bit_is 0 i k refl g).0
      | inr d ↦ inr (bit_is 1 i k refl d).0
    ]

branch_read : (i k : ℕ) → MayRead branch_flow i k → i ≡ 1
branch_read i k h = (bit_is 1 i k refl (two (all_bits (widths design) 1 i k) ((decided branch_flow i k).reads.1 h))).0

q_written : MayWrite flow 2 0
q_written = (decided flow 2 0).writes.0 refl

q_sure : IsSureNow branch_flow 2 0
q_sure = (decided branch_flow 2 0).sure_now.0 refl

q_lasts : IsLasting design 2
q_lasts temporary = true≢false temporary.of_process.inner

-- ---- it is a latch

abbrev gate : Gate
gate = record { signal = 0; input = 0; opens = One }

no_loop : (i k : ℕ) → ReadsOutside flow i k → MayWrite flow i k → ⊥
no_loop i k outside may =
    elim (read_is i k outside) [
      | inl g ↦ let q = (written_is i k may).0 in omega (arith, g, q)
      | inr d ↦ let q = (written_is i k may).0 in omega (arith, d, q)
    ]

latch : IsGatedLatch design 0 gate
latch =
    record {
      list = None;
      body = body;
      test = bit_of 0;
      branch = branch;
      spot = spot;
      does = refl;
      whole = refl;
      tests = refl;
      one_bit = refl;
      comes = record { input = refl; goes = Itself };
      writes = λ i k may.
          let (signal', place) = written_is i k may in
          subst (λ (l : ℕ). IsSureNow branch_flow i l) (sym place) (subst (λ (j : ℕ). IsSureNow branch_flow j 0) (sym signal') q_sure);
      holds = (2, 0, q_written, q_lasts);
      apart = no_loop;
      list_apart = λ i k listed may. false≢true listed;
      once = λ k read. let d = branch_read 0 k read in omega (arith, d);
      list_once = λ k listed. false≢true listed;
    }

-- there is no other
one_process : (p : ℕ) (does : Doing) → doing_at design p ≡ Some does → (p ≡ 0) × (does ≡ Comb None body)
one_process zero does is = (refl, (let same : Comb None body ≡ does = cc in sym same))
one_process (suc p) does is = absurd (cc)

itself : (top i : ℕ) → GoesTo design top i → top ≡ i
itself top i Itself = refl
itself top i (Through j i' p task goes there plain) =
    let kinds = (one_process p task.does (ap doing_of there)).1 in
    absurd (let other = sym plain.does ∙ kinds in cc (other))

tested_as : (i j : ℕ) (a b : Bit) → ◌≡◌ {A = Option (ℕ × Bit)} (Some (i, a)) (Some (j, b)) → (j ≡ i) × (b ≡ a)
tested_as i j a b same =
    let pair : ◌≡◌ {A = ℕ × Bit} (i, a) (j, b) = cc (same) in
    (sym (ap (λ (x : ℕ × Bit). x.0) pair), sym (ap (λ (x : ℕ × Bit). x.1) pair))

only : (p : ℕ) (other : Gate) → IsGatedLatch design p other → (p ≡ 0) × (other ≡ gate)
only p other is = (one.0, same_gate)
  where
    one : (p ≡ 0) × (Comb is.list is.body ≡ Comb None body)
    one = one_process p (Comb is.list is.body) is.does

    its_body : is.body ≡ body
    its_body = let kinds = one.1 in cc (kinds)

    its_test : is.test ≡ bit_of 0
    its_test =
        let whole : Then (If is.test is.branch Without is.spot) Done ≡ body = sym is.whole ∙ ap opened its_body in cc (whole)

    tested : ◌≡◌ {A = Option (ℕ × Bit)} (Some (0, One)) (Some (other.signal, other.opens))
    tested = ap gate_test (sym its_test) ∙ is.tests

    tests_g : other.signal ≡ 0
    tests_g = (tested_as 0 other.signal One other.opens tested).0

    opens_high : other.opens ≡ One
    opens_high = (tested_as 0 other.signal One other.opens tested).1

    from_g : other.input ≡ 0
    from_g = itself other.input other.signal is.comes.goes ∙ tests_g

    same_gate : other ≡ gate
    same_gate =
        ap (λ (x : ℕ). record { signal = x; input = other.input; opens = other.opens }) tests_g
        ∙ ap (λ (x : ℕ). record { signal = 0; input = x; opens = other.opens }) from_g
        ∙ ap (λ (x : Bit). record { signal = 0; input = 0; opens = x }) opens_high

no_clock : (c : ℕ) → IsClockOrReset design c → ⊥
no_clock c clock =
    let kinds : Edge' clock.edges.events clock.edges.body ≡ Comb None body = (one_process clock.edges.process (Edge' clock.edges.events clock.edges.body) clock.edges.does).1 in
    cc (kinds)

admitted : IsAdmitted design 0 gate
admitted =
    record {
      latch = latch;
      no_clock = no_clock 0;
      alike = λ p other is same. ap (λ (g : Gate). g.opens) (only p other is).1;
    }

-- ---- it is lawful

abbrev CanBe : Piece → Type 0
CanBe piece = IsSelection design.signals piece.signal piece.selection

abbrev IsVariable : Piece → Type 0
IsVariable piece = Has (λ s. s.kind ≡ Var) design.signals piece.signal

abbrev q : Piece
q = record { signal = 2; selection = part.Whole; spot = spot }

read : (i : ℕ) → i < 3 → widths design i ≡ 1 → IsExpression design.signals (bit_of i)
read i inside one =
    record {
      widths = (omega arith, record { not_empty = omega (arith, one); inside = omega (arith, one); whole = λ h. absurd (false≢true h) }, inside);
      signs = ((λ signed. absurd (false≢true signed)), tt);
    }

assigns : IsAssignment design.signals Var (q ∷ []) (bit_of 1)
assigns =
    record {
      parts = All-cons CanBe q [] (omega arith) (All-nil CanBe);
      kinds = All-cons IsVariable q [] refl (All-nil IsVariable);
      not_empty = omega arith;
      at_most = omega arith;
      sized = read 1 (omega arith) refl;
      covered = omega arith;
    }

lawful : AreLawful design
lawful =
    lawful_processes design
    (All-cons (λ (one : Task). IsProcess design.signals one.does) _ [] (tt, ((read 0 (omega arith) refl, (assigns, tt), tt), tt))
    (All-nil (λ (one : Task). IsProcess design.signals one.does)))

-- ---- its equations have one solution

no_other : (p i k : ℕ) → p ≢ 0 → OfProcess MayWrite design.signals design.tasks p i k → ⊥
no_other zero i k other may = other refl
no_other (suc p) i k other may = may

plain : IsPlain design 0 None body
plain =
    record {
      lists = λ i k h. (decided flow i k).reads.1 (may_read_outside _ i k h);
      no_late = λ i k h. false≢true ((decided flow i k).late.1 h);
      apart = no_loop;
      alone = λ i k writes p other may. no_other p i k other may;
    }

abbrev HasFirm : Piece → Type 0
HasFirm piece = HasFirmIndex design piece.selection

computing : IsComputing design 0 None body
computing =
    record {
      plain = plain;
      tame = ((tt, ((All-cons HasFirm q [] tt (All-nil HasFirm), tt), tt), tt), tt);
      exclusive = (((tt, tt), tt), tt);
      computes = inr (gate, admitted);
    }

own : (p : ℕ) (list : Option (List Watched)) (other : Actions) → doing_at design p ≡ Some (Comb list other) → (p ≡ 0) × (list ≡ None) × (other ≡ body)
own p list other is =
    let one = one_process p (Comb list other) is in
    let kinds = one.1 in
    (one.0, cc (kinds), cc (kinds))

computes : (p : ℕ) (list : Option (List Watched)) (other : Actions) → doing_at design p ≡ Some (Comb list other) → IsComputing design p list other
computes p list other is =
    let it = own p list other is in
    subst (λ x. IsComputing design x list other) (sym it.0)
    (subst (λ x. IsComputing design 0 x other) (sym it.1) (subst (λ x. IsComputing design 0 None x) (sym it.2) computing))

tests_bit : (v : Values) (bits : List Bit) → v 0 ≡ bits → length bits ≡ 1 → is_one (truth_bit (value v (bit_of 0))) ≡ same_bit (bit v 0 0) One
tests_bit v [] is wide = absurd (omega (arith, wide))
tests_bit v (Zero ∷ []) is wide = rw is refl
tests_bit v (One ∷ []) is wide = rw is refl
tests_bit v (X ∷ []) is wide = rw is refl
tests_bit v (Z ∷ []) is wide = rw is refl
tests_bit v (b ∷ c ∷ bits) is wide = absurd (omega (arith, wide))

gated : IsGated design body gate
gated =
    record {
      test = bit_of 0;
      branch = branch;
      spot = spot;
      whole = refl;
      input = refl;
      behind = Here;
      one_bit = refl;
      outside = (decided flow 0 0).outside.0 refl;
      tests = λ v wide. tests_bit v (v 0) refl (wide 0);
      sure = λ i k may lasts.
          let (signal', place) = written_is i k may in
          subst (λ (l : ℕ). IsSure branch_flow i l) (sym place)
          (subst (λ (j : ℕ). IsSure branch_flow j 0) (sym signal') ((decided branch_flow 2 0).sure.0 refl));
    }

are_gated :
    (p : ℕ) (list : Option (List Watched)) (other : Actions) → doing_at design p ≡ Some (Comb list other) →
    (gate' : Gate) → IsAdmitted design p gate' → IsGated design other gate'
are_gated p list other is gate' its =
    subst (λ x. IsGated design x gate') (sym (own p list other is).2) (subst (IsGated design body) (sym (only p gate' its.latch).1) gated)

no_assign : (p : ℕ) (target : List Piece) (e : Tree) → doing_at design p ≡ Some (Assign target e) → ⊥
no_assign p target e is = let kinds = (one_process p (Assign target e) is).1 in cc (kinds)

no_edge : (p : ℕ) (events : List Watched) (other : Actions) → doing_at design p ≡ Some (Edge' events other) → ⊥
no_edge p events other is = let kinds = (one_process p (Edge' events other) is).1 in cc (kinds)

no_arrow : (p r : ℕ) → IsArrow design.signals design.tasks p r → ⊥
no_arrow (suc p) r arrow = arrow.«from»
no_arrow zero (suc r) arrow = arrow.to
no_arrow zero zero arrow =
    elim arrow.wanted [
      | inl outside ↦ no_loop arrow.signal arrow.bit outside arrow.written
      | inr others ↦ others.0 refl
    ]

bit_written : (k : ℕ) → k < 1 → MayWrite flow 2 k
bit_written zero below = q_written
bit_written (suc k) below = absurd (omega (arith, below))

sourced : (i k : ℕ) → k < widths design i → IsLasting design i → IsTrue (is_input design i) ⊎ (IsRegisterBit design i k ⊎ IsComputed design i k)
sourced zero k inside lasts = inl refl
sourced (suc zero) k inside lasts = inl refl
sourced (suc (suc zero)) k inside lasts = inr (inr (record { process = 0; node = tt; may = bit_written k inside }))
sourced (suc (suc (suc i))) k inside lasts = absurd (let none : k < 0 = inside in omega (arith, none))

solvable : IsSolvable design (λ p. 0)
solvable =
    record {
      lawful = lawful;
      ascends = λ p r arrow. absurd (no_arrow p r arrow);
      sourced = sourced;
      firm = λ p target e is. absurd (no_assign p target e is);
      sole = λ p target e is. absurd (no_assign p target e is);
      computing = computes;
      gated = are_gated;
    }

-- ---- its gate is used as such alone

synchronous : IsSynchronous design
synchronous =
    record {
      lawful = lawful;
      blocking = λ p events other is. absurd (no_edge p events other is);
      no_late = λ p list other is i k late.
          plain.no_late i k (subst (λ x. MayWriteLate (body_flow (widths design) x) i k) (own p list other is).2 late);
      alone = λ p r does other is there i k may may'. (one_process p does is).0 ∙ sym (one_process r other there).0;
      edges = λ p events other item is. absurd (no_edge p events other is.does);
      clocks = λ p events other item is. absurd (no_edge p events other is.does);
      once = λ p events other a b is. absurd (no_edge p events other is.does);
      heard = λ p does is i k cone. absurd (no_clock cone.clock cone.is_clock);
      tests = λ p events other is. absurd (no_edge p events other is);
    }

reached_itself : (c i : ℕ) → IsReached design c i → c ≡ i
reached_itself c i control.Itself = refl
reached_itself c i (control.Through j i' reached passed) =
    absurd (no_assign passed.process (whole_of i' passed.connection.spot) passed.value (ap doing_of passed.connection.there ∙ ap Some passed.connection.does))

fed : AreFed design 0
fed p does is i k reached may =
    let q_is = (written_is i k (subst (λ x. MayWrite (flow_of (widths design) x) i k) (one_process p does is).1 may)).0 in
    let g_is = reached_itself 0 i reached in
    absurd (omega (arith, q_is, g_is))

shutter : (b : Bit) → same_bit b One ≡ false → IsShutter design 0 b
shutter b closed =
    record {
      input = refl;
      one_bit = λ i reached. ap (widths design) (sym (reached_itself 0 i reached));
      heard = λ p does is i k reached sensitive.
          subst (λ x. MayShut design b x i) (sym (one_process p does is).1)
          (subst (λ (j : ℕ). MayShut design b (Comb None body) j) (reached_itself 0 i reached)
          (λ v wide same. closed_makes design body gate gated v wide (ap (λ (bits : List Bit). same_bit (slice_index_or bits 0 X) One) same ∙ closed)));
    }

-- no process has a clock
abbrev no_chain : Chain
no_chain =
    record {
      resets = [];
      clock = record { signal = 0; selection = part.Whole; edge = edge.Pos; spot = spot };
      part = Done;
    }

clean : IsCleanClocked design (λ p. no_chain) (λ p. 0)
clean =
    record {
      solvable = solvable;
      synchronous = synchronous;
      formed = λ p events other is. absurd (no_edge p events other is);
      gates = λ p gate' its. subst (IsGateAlone design) (sym (only p gate' its.latch).1) (record { fed = fed; shutter = shutter });
    }

-- ---- so the laws hold of it

agrees : (f : Fill) → Agree design (λ p. no_chain) f
agrees f = agreement design (λ p. no_chain) (λ p. 0) clean f

wakes : CanAllWake design
wakes p list other is =
    let it = own p list other is in
    subst (λ x. CanWake design x list other) (sym it.0)
    (subst (λ x. CanWake design 0 x other) (sym it.1)
    (subst (λ x. CanWake design 0 None x) (sym it.2) (record { signal = 0; place = 0; inside = omega arith; listed = refl; source = inl refl })))

comes_up : (f : Fill) → BringsUp design (λ p. no_chain) f
comes_up f =
    brings_up design (λ p. no_chain) (λ p. 0) clean wakes (λ i k register none. no_edge register.process register.events register.body register.does) f

-- ---- brought up with g and d 1

none_offered : (o : ℕ → Option (List Bit)) → o 0 ≡ None → o 1 ≡ None → (i : ℕ) → IsTrue (is_input design i) → o i ≡ None
none_offered o g d zero is = g
none_offered o g d (suc zero) is = d
none_offered o g d (suc (suc zero)) is = absurd (false≢true is)
none_offered o g d (suc (suc (suc i))) is = absurd (false≢true is)

all_wait : (woken : ℕ → Bool) → woken 0 ≡ false → (p : ℕ) → IsSome (doing_at design p) → woken p ≡ false
all_wait woken waits zero there = waits
all_wait woken waits (suc p) there = absurd (false≢true there)

no_drivers : (p : ℕ) → is_assignment (doing_at design p) ≡ true → ⊥
no_drivers zero is = false≢true is
no_drivers (suc p) is = false≢true is

rests :
    (s : State) → s.offered 0 ≡ None → s.offered 1 ≡ None → s.woken 0 ≡ false → s.activated ≡ [] → s.delayed ≡ [] → IsAtRest design s
rests s g d waits activated delayed =
    record {
      no_active = record {
        inputs = none_offered s.offered g d;
        processes = all_wait s.woken waits;
        drivers = λ p is. absurd (no_drivers p is);
        updates = activated;
      };
      no_delayed = delayed;
    }

abbrev both_set : List Setting
both_set = set_to 0 One ∷ set_to 1 One ∷ []

abbrev opened_state : State
opened_state = run design (after_offer (power_up design) both_set) (Input 0 ∷ Input 1 ∷ Run 0 ∷ [])

sets : (i : ℕ) → IsTrue (is_input design i) → 1 ≡ widths design i → SetsInput design (set_to i One)
sets i input wide = record { input = input; can_be = record { wide = wide; known = refl } }

each_set : (i : ℕ) → IsTrue (is_input design i) → IsTrue (list_any (is_set i) (both_set ∷ []))
each_set zero is = refl
each_set (suc zero) is = refl
each_set (suc (suc zero)) is = absurd (false≢true is)
each_set (suc (suc (suc i))) is = absurd (false≢true is)

bring_up : IsBringUp design (λ p. no_chain) (both_set ∷ [])
bring_up =
    record {
      some_step = λ h. absurd (omega (arith, ap length h));
      settings =
          All-cons (All (SetsInput design)) both_set []
          (All-cons (SetsInput design) (set_to 0 One) (set_to 1 One ∷ []) (sets 0 refl refl) (All-cons (SetsInput design) (set_to 1 One) [] (sets 1 refl refl) (All-nil (SetsInput design))))
          (All-nil (All (SetsInput design)));
      all_set = each_set;
      resets = λ p events other is. absurd (no_edge p events other is);
      gates = λ p gate' its.
          let same = (only p gate' its.latch).1 in
          subst (λ (x : Gate). bit (given_by (power_up design).value (both_set ∷ [])) x.input 0 ≡ x.opens) (sym same) refl;
    }

first : IsNext design (power_up design) both_set opened_state
first =
    record {
      reaches = record {
        events = Input 0 ∷ Input 1 ∷ Run 0 ∷ [];
        can = ((refl, refl), ((refl, refl), ((refl, refl), tt)));
        leads = refl;
      };
      rest = rests opened_state refl refl refl refl refl;
    }

settled : (f : Fill) → (n : Values) × IsSettledKnown design (λ p. no_chain) f opened_state n
settled f = (comes_up f).settles (both_set ∷ []) bring_up (opened_state ∷ []) (first, tt)

-- ---- it closes, d changes, and it opens again

abbrev steps : List Step
steps = Turn (set_to 0 Zero) ∷ Data (set_to 1 Zero ∷ []) ∷ Turn (set_to 0 One) ∷ []

is_gate : IsGateInput design 0
is_gate = record { process = 0; gate = gate; admitted = admitted; same = refl }

is_data : IsDataInput design 1
is_data =
    record {
      input = refl;
      no_control = λ either.
          elim either [
            | inl clock ↦ no_clock 1 clock
            | inr other ↦
                let g_is : other.gate.input ≡ 0 = ap (λ (x : Gate). x.input) (only other.process other.gate other.admitted.latch).1 in
                let d_is = other.same in
                omega (arith, g_is, d_is)
          ];
    }

apart : ◌≢◌ {A = Bit} Zero One
apart same = false≢true (ap is_one same)

lawful_steps : (f : Fill) → AreLawfulSteps design (settled f).0 steps
lawful_steps f = (
  record {
    control = inr is_gate;
    can_be = record { wide = refl; known = refl };
    other = λ same.
        apart (ap (λ (bits : List Bit). slice_index_or bits 0 X) same ∙ sym ((settled f).1.shows 0 0 (omega arith) (input_lasts design 0 refl)).same);
  },
  (
    All-cons (SetsData design) (set_to 1 Zero) [] (record { data_input = is_data; can_be = record { wide = refl; known = refl } }) (All-nil (SetsData design)),
    (
      record {
        control = inr is_gate;
        can_be = record { wide = refl; known = refl };
        other = λ same. apart (sym (ap (λ (bits : List Bit). slice_index_or bits 0 X) same));
      },
      tt,
    ),
  ),
)

abbrev closed_state : State
closed_state = run design (after_offer opened_state (set_to 0 Zero ∷ [])) (Input 0 ∷ Run 0 ∷ [])

abbrev held_state : State
held_state = run design (after_offer closed_state (set_to 1 Zero ∷ [])) (Input 1 ∷ Run 0 ∷ [])

abbrev open_state : State
open_state = run design (after_offer held_state (set_to 0 One ∷ [])) (Input 0 ∷ Run 0 ∷ [])

runs : AreRuns design opened_state (map settings steps) (closed_state ∷ held_state ∷ open_state ∷ [])
runs = (
  record { reaches = record { events = Input 0 ∷ Run 0 ∷ []; can = ((refl, refl), ((refl, refl), tt)); leads = refl }; rest = rests closed_state refl refl refl refl refl },
  (
    record { reaches = record { events = Input 1 ∷ Run 0 ∷ []; can = ((refl, refl), ((refl, refl), tt)); leads = refl }; rest = rests held_state refl refl refl refl refl },
    (record { reaches = record { events = Input 0 ∷ Run 0 ∷ []; can = ((refl, refl), ((refl, refl), tt)); leads = refl }; rest = rests open_state refl refl refl refl refl }, tt),
  ),
)

-- the states show the numbers that follow
followed : (f : Fill) → AreFollowed design (λ p. no_chain) f (settled f).0 steps (closed_state ∷ held_state ∷ open_state ∷ [])
followed f = (agrees f).agrees opened_state (settled f).0 (settled f).1 steps (lawful_steps f) (closed_state ∷ held_state ∷ open_state ∷ []) runs

-- and q is 1, 1 while d is 0 already, and 0
shown : (closed_state.value 2 ≡ One ∷ []) × (held_state.value 2 ≡ One ∷ []) × (open_state.value 2 ≡ Zero ∷ [])
shown = (refl, refl, refl)
