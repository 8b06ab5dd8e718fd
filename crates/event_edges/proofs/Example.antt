-- `always @(posedge clk or posedge rst) if (rst) q <= 1'b0; else q <= a;`: the conditions can be met, and its reset sets q.
use Rattle.std.proofs.Common.{◌≡◌, ◌≢◌, ◌∙◌, ◌⊎◌, ◌==◌, ◌<◌, ◌≤◌, ◌++◌, ℕ, zero, suc, true, false, List, [], ◌∷◌, Some, refl, sym, ap, subst, inl, inr, arith}
use Rattle.std.specs.Prelude.{IsTrue, if◌then◌else◌}
use Rattle.std.specs.List.{list_any, slice_get}
use Rattle.std.proofs.lemmas.Bool.{and_parts, eqb-true, false≢true}
use Rattle.std.proofs.lemmas.List.Elements.{All-cons, All-nil}
use Rattle.rtl_bits.specs.declared.Bit.{Bit}
use Rattle.rtl_bits.specs.declared.Bit.TheVariants.{Zero, One, X, Z}
use Rattle.rtl_bits.specs.declared.Edge.TheVariants as edge
use Rattle.rtl_bits.specs.Bit.{is_one}
use Rattle.rtl_bits.specs.Bits.{extended, truth_bit}
use Rattle.text_ground.specs.declared.text.Spot.{Spot}
use Rattle.rtl_flat.specs.declared.signal.Signal.{Signal}
use Rattle.rtl_flat.specs.declared.signal.Kind.{Kind}
use Rattle.rtl_flat.specs.declared.signal.Kind.TheVariants.{TopInput, Var}
use Rattle.rtl_flat.specs.Expression.{Tree, Sized, Literal}
use Rattle.rtl_flat.specs.Expression as tree
use Rattle.rtl_flat.specs.Flows.{body_flow}
use Rattle.rtl_flat.specs.Paths.{MayWrite, MayWriteNow, ReadsOutside}
use Rattle.rtl_flat.specs.PathSets.{OfProcess, items_list}
use Rattle.rtl_flat.specs.Process.{Whole, Piece, Watched, Set, If, Actions, Done, Then, With, Doing, Assign, Comb, Edge'}
use Rattle.rtl_flat.specs.Signs.{Has, IsExpression}
use Rattle.rtl_flat.specs.Sizes.{width_of}
use Rattle.rtl_flat.specs.WellFormed.{IsAssignment, IsProcess, IsSelection, IsWatched, has_edge}
use Rattle.rtl_flat.proofs.Paths.{decided}
use Rattle.event_model.specs.Bodies.{body_made}
use Rattle.event_model.specs.Queue.{doing_at, doing_of, listens, settled_at}
use Rattle.rtl_flat.specs.Flats.{Flat, widths}
use Rattle.event_model.specs.Writes.{Values}
use Rattle.event_runs.specs.event_laws.Steady.{AreLawful, HaveWidths}
use Rattle.event_runs.proofs.event_laws_proofs.Steady.{steady_settled}
use Rattle.net_model.specs.Control.{InClockCone, IsFromTop, IsPassedOn, IsReached, Itself, Through, waits_for, whole_of}
use Rattle.net_model.specs.Numbers.{bit}
use Rattle.event_runs.proofs.event_laws_proofs.Laws.{outside_inside, writes_variables}
use Rattle.event_runs.specs.Effects.{laters}
use Rattle.event_runs.proofs.Laws.{late_none}
use Rattle.event_edges.specs.Registers.{updates_bit}
use Rattle.event_edges.specs.Reset.{IsReset}
use Rattle.event_edges.specs.Synchronous.{IsItem, IsSynchronous, MayHear, NoSignal}
use Rattle.event_edges.specs.Turned.{IsEdgeStart}
use Rattle.event_edges.proofs.Hearing.{find}
use Rattle.event_edges.proofs.Ports.{one_bit}

spot : Spot
spot = record { file = 0; at = 0 }

abbrev signal : Kind → Signal
signal kind = record { path = []; width = 1; signed = false; low = 0; kind = kind; top_output = false; instance = 0; spot = spot }

abbrev bit_of : ℕ → Tree
bit_of i = Sized 1 false spot (tree.Whole i)

abbrev none : Tree
none = Sized 1 false spot (Literal (Zero ∷ []))

abbrev rise : ℕ → Watched
rise i = record { signal = i; selection = Whole; edge = edge.Pos; spot = spot }

abbrev list : List Watched
list = rise 0 ∷ rise 1 ∷ []

abbrev set : Tree → Actions
set e = Then (Set (whole_of 3 spot) e true spot) Done

abbrev body : Actions
body = Then (If (bit_of 1) (set none) (With (set (bit_of 2))) spot) Done

abbrev block : Doing
block = Edge' list body

-- clk, rst and a, and q
abbrev signals : List Signal
signals = signal TopInput ∷ signal TopInput ∷ signal TopInput ∷ signal Var ∷ []

abbrev design : Flat
design = record { signals = signals; tasks = record { does = block; instance = 0; spot = spot } ∷ [] }

-- ---- it is lawful

one_process : (p : ℕ) (does : Doing) → doing_at design p ≡ Some does → (p ≡ 0) × (does ≡ block)
one_process zero does is = (refl, (let same : block ≡ does = cc in sym same))
one_process (suc p) does is = absurd (cc)

watched : (i : ℕ) → i < 4 → Has (λ s. s.width ≡ 1) signals i → IsWatched signals (rise i)
watched i inside one = record { inside = inside; whole = λ _. tt; one_bit = λ _. one }

abbrev CanBe : Piece → Type 0
CanBe piece = IsSelection signals piece.signal piece.selection

abbrev IsVar : Piece → Type 0
IsVar piece = Has (λ s. s.kind ≡ Var) signals piece.signal

abbrev q : Piece
q = record { signal = 3; selection = Whole; spot = spot }

read : (i : ℕ) → i < 4 → widths design i ≡ 1 → IsExpression signals (bit_of i)
read i inside one =
    record {
      widths = (omega arith, record { not_empty = omega (arith, one); inside = omega (arith, one); whole = λ h. absurd (false≢true h) }, inside);
      signs = ((λ signed. absurd (false≢true signed)), tt);
    }

constant : IsExpression signals none
constant =
    record {
      widths = (omega arith, record { not_empty = omega arith; inside = omega arith; whole = λ _. refl }, tt);
      signs = (tt, tt);
    }

assigns : (e : Tree) → IsExpression signals e → 1 ≤ width_of (widths design) e → IsAssignment signals Var (q ∷ []) e
assigns e sized wide =
    record {
      parts = All-cons CanBe q [] (omega arith) (All-nil CanBe);
      kinds = All-cons IsVar q [] refl (All-nil IsVar);
      not_empty = omega arith;
      at_most = omega arith;
      sized = sized;
      covered = wide;
    }

lawful_block : IsProcess signals block
lawful_block = (
  All-cons (IsWatched signals) (rise 0) (rise 1 ∷ []) (watched 0 (omega arith) refl) (All-cons (IsWatched signals) (rise 1) [] (watched 1 (omega arith) refl) (All-nil (IsWatched signals))),
  refl,
  ((read 1 (omega arith) refl, (assigns none constant (omega arith), tt), (assigns (bit_of 2) (read 2 (omega arith) refl) (omega arith), tt)), tt),
)

lawful : AreLawful design
lawful p does is = subst (IsProcess signals) (sym (one_process p does is).1) lawful_block

-- ---- clocks and resets

-- the block's own parts
own : (p : ℕ) (events : List Watched) (b : Actions) → doing_at design p ≡ Some (Edge' events b) → (events ≡ list) × (b ≡ body)
own p events b is =
    let same : Edge' events b ≡ Edge' list body = (one_process p (Edge' events b) is).1 in
    (cc (same), cc (same))

items : (place : ℕ) (x : Watched) → slice_get list place ≡ Some x → (x ≡ rise 0) ⊎ (x ≡ rise 1)
items zero x there = inl (let same : rise 0 ≡ x = cc in sym same)
items (suc zero) x there = inr (let same : rise 1 ≡ x = cc in sym same)
items (suc (suc place)) x there = absurd (cc)

item : (p : ℕ) (events : List Watched) (b : Actions) (x : Watched) → IsItem design p events b x → (x ≡ rise 0) ⊎ (x ≡ rise 1)
item p events b x is =
    items is.place x (ap (λ l. slice_get l is.place) (sym (own p events b is.does).0) ∙ is.there)

no_connection : (i j : ℕ) → IsPassedOn design i j → ⊥
no_connection i j passed =
    let does : doing_at design passed.process ≡ Some (Assign (whole_of j passed.connection.spot) passed.value) = ap doing_of passed.connection.there ∙ ap Some passed.connection.does in
    let kinds : Assign (whole_of j passed.connection.spot) passed.value ≡ Edge' list body = (one_process passed.process _ does).1 in
    cc

here : (c i : ℕ) → IsReached design c i → c ≡ i
here c _ Itself = refl
here c _ (Through k j reached passed) = absurd (no_connection k j passed)

-- the clock cone is clk and rst
in_cone : (i : ℕ) → InClockCone design i → (i ≡ 0) ⊎ (i ≡ 1)
in_cone i cone =
    let clock = cone.is_clock in
    let same : clock.signal ≡ i = sym (here cone.clock clock.signal clock.reached) ∙ here cone.clock i cone.reached in
    let one = find (waits_for clock.signal) list (ap (list_any (waits_for clock.signal)) (sym (own clock.edges.process clock.edges.events clock.edges.body clock.edges.does).0) ∙ clock.edges.waits) in
    let at : one.item.signal ≡ clock.signal = eqb-true one.item.signal clock.signal (and_parts (one.item.signal == clock.signal) (has_edge one.item.edge) one.passes).0 in
    elim (items one.place one.item one.there) [
      | inl first ↦ inl (sym same ∙ sym at ∙ ap (λ (x : Watched). x.signal) first)
      | inr second ↦ inr (sym same ∙ sym at ∙ ap (λ (x : Watched). x.signal) second)
    ]

listed : (i k : ℕ) → (i ≡ 0) ⊎ (i ≡ 1) → k ≡ 0 → items_list (widths design) list i k ≡ true
listed i k (inl e) first = ap (λ j. items_list (widths design) list j k) e ∙ ap (items_list (widths design) list 0) first
listed i k (inr e) first = ap (λ j. items_list (widths design) list j k) e ∙ ap (items_list (widths design) list 1) first

cone_width : (i : ℕ) → (i ≡ 0) ⊎ (i ≡ 1) → widths design i ≡ 1
cone_width i (inl e) = ap (widths design) e
cone_width i (inr e) = ap (widths design) e

from_top : (i : ℕ) → (i ≡ 0) ⊎ (i ≡ 1) → IsFromTop design i
from_top i (inl e) = subst (IsFromTop design) (sym e) (record { top = 0; input = refl; reached = Itself })
from_top i (inr e) = subst (IsFromTop design) (sym e) (record { top = 1; input = refl; reached = Itself })

signal_of : (x : Watched) → (x ≡ rise 0) ⊎ (x ≡ rise 1) → (x.signal ≡ 0) ⊎ (x.signal ≡ 1)
signal_of x (inl e) = inl (ap (λ (y : Watched). y.signal) e)
signal_of x (inr e) = inr (ap (λ (y : Watched). y.signal) e)

edged : (x : Watched) → (x ≡ rise 0) ⊎ (x ≡ rise 1) → IsTrue (has_edge x.edge)
edged x (inl e) = ap (λ (y : Watched). has_edge y.edge) e
edged x (inr e) = ap (λ (y : Watched). has_edge y.edge) e

nothing_now : (i k : ℕ) → MayWriteNow (body_flow (widths design) body) i k → ⊥
nothing_now i k h = false≢true ((decided (body_flow (widths design) body) i k).now.1 h)

-- the conditions are met
synchronous : IsSynchronous design
synchronous =
    record {
      lawful = lawful;
      blocking = λ p events b is i k h.
          absurd (nothing_now i k (subst (λ x. MayWriteNow (body_flow (widths design) x) i k) (own p events b is).1 h));
      no_late = λ p l b is i k h.
          let kinds : Comb l b ≡ Edge' list body = (one_process p (Comb l b) is).1 in absurd (cc (kinds));
      alone = λ p r does other is there i k h h'. (one_process p does is).0 ∙ sym (one_process r other there).0;
      edges = λ p events b x is. edged x (item p events b x is);
      clocks = λ p events b x is. from_top x.signal (signal_of x (item p events b x is));
      once = λ p events b x y is is' c input r r'. sym (here c x.signal r) ∙ here c y.signal r';
      heard = λ p does is i k cone h. subst (λ x. MayHear NoSignal design x i) (sym (one_process p does is).1) tt;
      tests = λ p events b is i k cone h.
          let place = in_cone i cone in
          let outside : ReadsOutside (body_flow (widths design) body) i k = subst (λ x. ReadsOutside (body_flow (widths design) x) i k) (own p events b is).1 h in
          let inside = outside_inside design body i k lawful_block.2 outside in
          let wide = cone_width i place in
          ap (λ l. items_list (widths design) l i k) (own p events b is).0 ∙ listed i k place (omega (arith, inside, wide));
    }

-- ---- the reset

rising : (old : Bit) → old ≢ One → listens (widths design) 1 0 old One block ≡ true
rising Zero other = refl
rising One other = absurd (other refl)
rising X other = refl
rising Z other = refl

set_to_zero : (v : Values) → HaveWidths design v → bit v 1 0 ≡ One → (b : Bit) → updates_bit 3 0 (laters (body_made (widths design) v body)) b ≡ Zero
set_to_zero v have now b =
    ap (λ l. updates_bit 3 0 (laters ((if is_one (truth_bit (extended 1 false l)) then body_made (widths design) v (set none) else body_made (widths design) v (set (bit_of 2))) ++ [])) b)
    (one_bit (v 1) One (have 1) now)

only_variable : (i : ℕ) → Has (λ s. s.kind ≡ Var) signals i → i ≡ 3
only_variable zero h = absurd (cc)
only_variable (suc zero) h = absurd (cc)
only_variable (suc (suc zero)) h = absurd (cc)
only_variable (suc (suc (suc zero))) h = refl
only_variable (suc (suc (suc (suc i)))) h = absurd h

written_is : (i k : ℕ) → MayWrite (body_flow (widths design) body) i k → i ≡ 3
written_is i k h = only_variable i (writes_variables design body i k lawful_block.2 h)

reset : IsReset design 0 1 One 3 0 Zero
reset =
    record {
      list = list;
      body = body;
      does = refl;
      known = refl;
      one_bit = refl;
      unwritten = λ n h. let three = written_is 1 n h in omega (arith, three);
      heard = rising;
      variable = refl;
      sole = λ p other may. no_other p other may;
      asks = set_to_zero;
    }
  where
    no_other : (p : ℕ) → (p ≡ 0 → ⊥) → OfProcess MayWrite signals design.tasks p 3 0 → ⊥
    no_other zero other may = other refl
    no_other (suc p) other may = may

-- ---- a step of the clock

abbrev before : Values
before zero = Zero ∷ []
before (suc zero) = Zero ∷ []
before (suc (suc zero)) = One ∷ []
before (suc (suc (suc zero))) = Zero ∷ []
before (suc (suc (suc (suc i)))) = []

wide : HaveWidths design before
wide zero = refl
wide (suc zero) = refl
wide (suc (suc zero)) = refl
wide (suc (suc (suc zero))) = refl
wide (suc (suc (suc (suc i)))) = refl

start : IsEdgeStart design 0 Zero One (settled_at design before)
start =
    record {
      rest = record {
        no_active = record { inputs = λ i input. refl; processes = λ p there. refl; drivers = λ p there. refl; updates = refl };
        no_delayed = refl;
      };
      order = record { steady = steady_settled design before wide; late = late_none design (settled_at design before) refl refl };
      resolved = λ p target e is. let kinds : Assign target e ≡ Edge' list body = (one_process p (Assign target e) is).1 in absurd (cc (kinds));
      clock = record {
        input = refl;
        signal = 0;
        reached = Itself;
        edges = record { process = 0; events = list; body = body; does = refl; waits = refl };
      };
      before = refl;
      other = λ h. cc;
    }
