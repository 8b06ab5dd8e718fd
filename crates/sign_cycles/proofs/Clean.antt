-- The register with a clock and a reset meets the conditions of clean designs: simulation agrees with synthesis on it, and
-- it is brought up.
use Rattle.std.proofs.Common.{◌≡◌, ◌∙◌, ◌⊎◌, ◌==◌, ◌<◌, ◌≤◌, ◌&&◌, ◌||◌, ℕ, zero, suc, Bool, true, false, List, [], ◌∷◌, length, Some, refl, sym, ap, subst, inl, inr, arith}
use Rattle.std.specs.Prelude.{IsTrue}
use Rattle.std.specs.List.{list_any, slice_get}
use Rattle.std.proofs.lemmas.Bool.{and_parts, eqb-true, false≢true}
use Rattle.std.proofs.lemmas.List.Elements.{All-cons, All-nil}
use Rattle.rtl_bits.specs.declared.Bit.TheVariants.{Zero}
use Rattle.rtl_flat.specs.declared.signal.Kind.TheVariants.{Var}
use Rattle.rtl_flat.specs.Expression.{Tree, Sized, Literal}
use Rattle.rtl_flat.specs.Flows.{all_bits, body_flow}
use Rattle.rtl_flat.specs.Levels.{IsArrow}
use Rattle.rtl_flat.specs.Paths.{MayWrite, MayWriteNow, ReadsOutside}
use Rattle.rtl_flat.specs.PathSets.{items_list}
use Rattle.rtl_flat.specs.Process.{Whole, Piece, Watched, Actions, Doing, Assign, Comb, Edge'}
use Rattle.rtl_flat.specs.Signs.{Has, IsExpression}
use Rattle.rtl_flat.specs.Sizes.{width_of}
use Rattle.rtl_flat.specs.WellFormed.{IsAssignment, IsProcess, IsSelection, IsWatched, has_edge}
use Rattle.rtl_flat.proofs.Paths.{decided}
use Rattle.event_model.specs.Queue.{doing_at, is_input}
use Rattle.rtl_flat.specs.Flats.{widths}
use Rattle.event_edges.specs.event_laws.Steady.{AreLawful}
use Rattle.event_edges.proofs.event_laws_proofs.Laws.{outside_inside}
use Rattle.event_edges.proofs.event_laws_proofs.Within.{may_read_outside}
use Rattle.net_model.specs.declared.fill.Fill.{Fill}
use Rattle.net_model.specs.Control.{InClockCone, IsFromTop, Itself, waits_for}
use Rattle.net_model.specs.Cycle.{Guard}
use Rattle.net_model.specs.Solution.{IsLasting, IsRegisterBit}
use Rattle.net_rest.specs.net_laws.Tame.{AreTame, HasFirmIndex, IsFirm}
use Rattle.net_rest.specs.Rest.{IsComputed, IsSolvable}
use Rattle.event_edges.specs.Synchronous.{IsItem, IsSynchronous, MayHear, NoSignal}
use Rattle.event_edges.proofs.Hearing.{find}
use Rattle.sign_cycles.specs.Agree.{Agree}
use Rattle.sign_cycles.specs.BringUp.{BringsUp}
use Rattle.sign_cycles.specs.Formed.{IsCleanClocked, IsConstant, IsFormed, TestsAlone}
use Rattle.sign_cycles.proofs.BringUp.{brings_up}
use Rattle.sign_cycles.proofs.Register.{bit_of, body, chain, clear, design, guard, is_chain, itself, list, no_comb, no_latch, register_written, rise, spot, store}
use Rattle.sign_cycles.proofs.Steps.{agreement}

-- ---- it is lawful

one_process : (p : ℕ) (does : Doing) → doing_at design p ≡ Some does → (p ≡ 0) × (does ≡ Edge' list body)
one_process zero does is = (refl, (let same : Edge' list body ≡ does = cc in sym same))
one_process (suc p) does is = absurd (cc)

watched : (i : ℕ) → i < 4 → Has (λ s. s.width ≡ 1) design.signals i → IsWatched design.signals (rise i)
watched i inside one = record { inside = inside; whole = λ _. tt; one_bit = λ _. one }

abbrev CanBe : Piece → Type 0
CanBe piece = IsSelection design.signals piece.signal piece.selection

abbrev IsVar : Piece → Type 0
IsVar piece = Has (λ s. s.kind ≡ Var) design.signals piece.signal

abbrev q : Piece
q = record { signal = 3; selection = Whole; spot = spot }

abbrev low : Tree
low = Sized 1 false spot (Literal (Zero ∷ []))

read : (i : ℕ) → i < 4 → widths design i ≡ 1 → IsExpression design.signals (bit_of i)
read i inside one =
    record {
      widths = (omega arith, record { not_empty = omega (arith, one); inside = omega (arith, one); whole = λ h. absurd (false≢true h) }, inside);
      signs = ((λ signed. absurd (false≢true signed)), tt);
    }

sized_low : IsExpression design.signals low
sized_low =
    record {
      widths = (omega arith, record { not_empty = omega arith; inside = omega arith; whole = λ _. refl }, tt);
      signs = (tt, tt);
    }

assigns : (e : Tree) → IsExpression design.signals e → 1 ≤ width_of (widths design) e → IsAssignment design.signals Var (q ∷ []) e
assigns e sized wide =
    record {
      parts = All-cons CanBe q [] (omega arith) (All-nil CanBe);
      kinds = All-cons IsVar q [] refl (All-nil IsVar);
      not_empty = omega arith;
      at_most = omega arith;
      sized = sized;
      covered = wide;
    }

lawful_block : IsProcess design.signals (Edge' list body)
lawful_block = (
  All-cons (IsWatched design.signals) (rise 0) (rise 1 ∷ []) (watched 0 (omega arith) refl) (All-cons (IsWatched design.signals) (rise 1) [] (watched 1 (omega arith) refl) (All-nil (IsWatched design.signals))),
  refl,
  ((read 1 (omega arith) refl, (assigns low sized_low (omega arith), tt), (assigns (bit_of 2) (read 2 (omega arith) refl) (omega arith), tt)), tt),
)

lawful : AreLawful design
lawful p does is = subst (IsProcess design.signals) (sym (one_process p does is).1) lawful_block

-- ---- clocks and resets are used as such alone

own : (p : ℕ) (events : List Watched) (b : Actions) → doing_at design p ≡ Some (Edge' events b) → (events ≡ list) × (b ≡ body)
own p events b is =
    let same : Edge' events b ≡ Edge' list body = (one_process p (Edge' events b) is).1 in
    (cc (same), cc (same))

items : (place : ℕ) (x : Watched) → slice_get list place ≡ Some x → (x ≡ rise 0) ⊎ (x ≡ rise 1)
items zero x there = inl (let same : rise 0 ≡ x = cc in sym same)
items (suc zero) x there = inr (let same : rise 1 ≡ x = cc in sym same)
items (suc (suc place)) x there = absurd (cc)

item : (p : ℕ) (events : List Watched) (b : Actions) (x : Watched) → IsItem design p events b x → (x ≡ rise 0) ⊎ (x ≡ rise 1)
item p events b x is =
    items is.place x (ap (λ l. slice_get l is.place) (sym (own p events b is.does).0) ∙ is.there)

-- the clock cone is clk and rst
in_cone : (i : ℕ) → InClockCone design i → (i ≡ 0) ⊎ (i ≡ 1)
in_cone i cone =
    let clock = cone.is_clock in
    let same : clock.signal ≡ i = sym (itself cone.clock clock.signal clock.reached) ∙ itself cone.clock i cone.reached in
    let one = find (waits_for clock.signal) list (ap (list_any (waits_for clock.signal)) (sym (own clock.edges.process clock.edges.events clock.edges.body clock.edges.does).0) ∙ clock.edges.waits) in
    let at : one.item.signal ≡ clock.signal = eqb-true one.item.signal clock.signal (and_parts (one.item.signal == clock.signal) (has_edge one.item.edge) one.passes).0 in
    elim (items one.place one.item one.there) [
      | inl first ↦ inl (sym same ∙ sym at ∙ ap (λ (x : Watched). x.signal) first)
      | inr second ↦ inr (sym same ∙ sym at ∙ ap (λ (x : Watched). x.signal) second)
    ]

listed : (i k : ℕ) → (i ≡ 0) ⊎ (i ≡ 1) → k ≡ 0 → items_list (widths design) list i k ≡ true
listed i k (inl e) first = ap (λ j. items_list (widths design) list j k) e ∙ ap (items_list (widths design) list 0) first
listed i k (inr e) first = ap (λ j. items_list (widths design) list j k) e ∙ ap (items_list (widths design) list 1) first

cone_width : (i : ℕ) → (i ≡ 0) ⊎ (i ≡ 1) → widths design i ≡ 1
cone_width i (inl e) = ap (widths design) e
cone_width i (inr e) = ap (widths design) e

from_top : (i : ℕ) → (i ≡ 0) ⊎ (i ≡ 1) → IsFromTop design i
from_top i (inl e) = subst (IsFromTop design) (sym e) (record { top = 0; input = refl; reached = Itself })
from_top i (inr e) = subst (IsFromTop design) (sym e) (record { top = 1; input = refl; reached = Itself })

signal_of : (x : Watched) → (x ≡ rise 0) ⊎ (x ≡ rise 1) → (x.signal ≡ 0) ⊎ (x.signal ≡ 1)
signal_of x (inl e) = inl (ap (λ (y : Watched). y.signal) e)
signal_of x (inr e) = inr (ap (λ (y : Watched). y.signal) e)

edged : (x : Watched) → (x ≡ rise 0) ⊎ (x ≡ rise 1) → IsTrue (has_edge x.edge)
edged x (inl e) = ap (λ (y : Watched). has_edge y.edge) e
edged x (inr e) = ap (λ (y : Watched). has_edge y.edge) e

nothing_now : (i k : ℕ) → MayWriteNow (body_flow (widths design) body) i k → ⊥
nothing_now i k h = false≢true ((decided (body_flow (widths design) body) i k).now.1 h)

synchronous : IsSynchronous design
synchronous =
    record {
      lawful = lawful;
      blocking = λ p events b is i k h.
          absurd (nothing_now i k (subst (λ x. MayWriteNow (body_flow (widths design) x) i k) (own p events b is).1 h));
      no_late = λ p l b is i k h.
          let kinds : Comb l b ≡ Edge' list body = (one_process p (Comb l b) is).1 in absurd (cc (kinds));
      alone = λ p r does other is there i k h h'. (one_process p does is).0 ∙ sym (one_process r other there).0;
      edges = λ p events b x is. edged x (item p events b x is);
      clocks = λ p events b x is. from_top x.signal (signal_of x (item p events b x is));
      once = λ p events b x y is is' c input r r'. sym (itself c x.signal r) ∙ itself c y.signal r';
      heard = λ p does is i k cone h. subst (λ x. MayHear NoSignal design x i) (sym (one_process p does is).1) tt;
      tests = λ p events b is i k cone h.
          let place = in_cone i cone in
          let outside : ReadsOutside (body_flow (widths design) body) i k = subst (λ x. ReadsOutside (body_flow (widths design) x) i k) (own p events b is).1 h in
          let inside = outside_inside design body i k lawful_block.2 outside in
          let wide = cone_width i place in
          ap (λ l. items_list (widths design) l i k) (own p events b is).0 ∙ listed i k place (omega (arith, inside, wide));
    }

-- ---- its equations have one solution

no_arrow : (p q : ℕ) → IsArrow design.signals design.tasks p q → ⊥
no_arrow zero r arrow = arrow.«from»
no_arrow (suc p) r arrow = arrow.«from»

q_written : (k : ℕ) → k < 1 → MayWrite (body_flow (widths design) body) 3 k
q_written zero below = register_written
q_written (suc k) below = absurd (omega (arith, below))

sourced : (i k : ℕ) → k < widths design i → IsLasting design i → IsTrue (is_input design i) ⊎ (IsRegisterBit design i k ⊎ IsComputed design i k)
sourced zero k inside lasts = inl refl
sourced (suc zero) k inside lasts = inl refl
sourced (suc (suc zero)) k inside lasts = inl refl
sourced (suc (suc (suc zero))) k inside lasts =
    inr (inl (record { process = 0; events = list; body = body; does = refl; may = q_written k inside; lasting = lasts }))
sourced (suc (suc (suc (suc i)))) k inside lasts = absurd (let none : k < 0 = inside in omega (arith, none))

no_assign : (p : ℕ) (target : List Piece) (e : Tree) → doing_at design p ≡ Some (Assign target e) → ⊥
no_assign p target e is =
    let kinds : Assign target e ≡ Edge' list body = (one_process p (Assign target e) is).1 in
    cc (kinds)

pub solvable : IsSolvable design (λ p. 0)
solvable =
    record {
      lawful = lawful;
      ascends = λ p r arrow. absurd (no_arrow p r arrow);
      sourced = sourced;
      firm = λ p target e is. absurd (no_assign p target e is);
      sole = λ p target e is. absurd (no_assign p target e is);
      computing = λ p l b is. absurd (no_comb p l b is);
      gated = λ p l b is gate admitted. absurd (no_latch p gate admitted);
    }

-- ---- its block is a register with a reset

first_of_and : (x z : Bool) → (((x && z) || false) || false) ≡ true → x ≡ true
first_of_and true z h = refl
first_of_and false z h = h

part_reads : (i k : ℕ) → ReadsOutside (body_flow (widths design) chain.part) i k → i ≡ 2
part_reads i k h =
    eqb-true i 2 (first_of_and (i == 2) _ ((decided (body_flow (widths design) chain.part) i k).reads.1 (may_read_outside _ i k h)))

apart : (i k : ℕ) → i ≡ 2 → (i ≡ 0) ⊎ (i ≡ 1) → ⊥
apart i k two (inl e) = omega (arith, two, e)
apart i k two (inr e) = omega (arith, two, e)

in_both : (x : Bool) → ((((x || false) || false) || ((x || false) || false)) || false) ≡ true → ((x || false) || false) ≡ true
in_both true h = refl
in_both false h = h

constant : IsConstant design body clear
constant =
    record {
      reads_nothing = λ i k h. false≢true ((decided (body_flow (widths design) clear) i k).outside.1 h);
      sets = λ i k may lasts.
          (decided (body_flow (widths design) clear) i k).sure.0
          (in_both (all_bits (widths design) 3 i k) ((decided (body_flow (widths design) body) i k).writes.1 may));
      late = λ i k h. false≢true ((decided (body_flow (widths design) clear) i k).now.1 h);
    }

abbrev HasFirm : Piece → Type 0
HasFirm piece = HasFirmIndex design piece.selection

tame_store : (e : Tree) → IsFirm design e → AreTame design (store e)
tame_store e firm = ((All-cons HasFirm q [] tt (All-nil HasFirm), firm), tt)

its_test : (i k : ℕ) → all_bits (widths design) 1 i k ≡ true → i ≡ 1
its_test i k is = eqb-true i 1 (and_parts (i == 1) _ is).0

formed : IsFormed design list body chain
formed =
    record {
      chained = is_chain;
      one_reset = omega arith;
      alone = All-cons (TestsAlone design) guard [] its_test (All-nil (TestsAlone design));
      constants = All-cons (λ (one : Guard). IsConstant design body one.branch) guard [] constant (All-nil (λ (one : Guard). IsConstant design body one.branch));
      apart = λ i k outside cone. apart i k (part_reads i k outside) (in_cone i cone);
      tame = ((tt, tame_store low refl, tame_store (bit_of 2) tt), tt);
      split = record {
        one_way = λ i k now late. nothing_now i k now;
        exclusive = (((tt, tt), (tt, tt)), tt);
      };
    }

its_form : (p : ℕ) (events : List Watched) (b : Actions) → doing_at design p ≡ Some (Edge' events b) → IsFormed design events b chain
its_form p events b is =
    subst (λ l. IsFormed design l b chain) (sym (own p events b is).0)
    (subst (λ x. IsFormed design list x chain) (sym (own p events b is).1) formed)

pub clean : IsCleanClocked design (λ p. chain) (λ p. 0)
clean =
    record {
      solvable = solvable;
      synchronous = synchronous;
      formed = its_form;
      gates = λ p gate admitted. absurd (no_latch p gate admitted);
    }

-- ---- so the laws hold of it

agrees : (f : Fill) → Agree design (λ p. chain) f
agrees f = agreement design (λ p. chain) (λ p. 0) clean f

comes_up : (f : Fill) → BringsUp design (λ p. chain) f
comes_up f =
    brings_up design (λ p. chain) (λ p. 0) clean (λ p l b is. absurd (no_comb p l b is))
    (λ i k register none. omega (arith, ap (λ (resets : List Guard). length resets) none)) f
