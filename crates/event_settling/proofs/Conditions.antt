-- What the rules give makes a design settle by level.
use Rattle.std.proofs.Common.{◌≡◌, ◌∙◌, ◌==◌, ◌||◌, ◌<◌, ℕ, Bool, true, false, List, [], ◌∷◌, Option, Some, refl, sym, ap, subst, inl, inr, arith}
use Rattle.std.specs.Prelude.{IsTrue}
use Rattle.std.specs.List.{All, list_any}
use Rattle.std.proofs.lemmas.Bool.{and_from, and_parts, eq-eqb, eqb-true, false≢true, le-leb, lt-ltb, or_cases, or_left, or_right}
use Rattle.std.proofs.lemmas.List.Elements.{All-head, All-tail}
use Rattle.text_ground.specs.declared.text.Spot.{Spot}
use Rattle.rtl_flat.specs.Expression.{Tree}
use Rattle.rtl_flat.specs.Flows.{body_flow, flow_of, may_select, may_target, reads}
use Rattle.rtl_flat.specs.Paths.{MayWrite, ReadsOutside}
use Rattle.rtl_flat.specs.PathSets.{OfProcess, items_list}
use Rattle.rtl_flat.specs.Process.{Actions, Assign, BitAt, BitBy, Comb, Doing, Edge', Part, Selection, Watched, Whole}
use Rattle.rtl_flat.specs.WellFormed.{has_edge}
use Rattle.rtl_flat.proofs.Paths.{decided}
use Rattle.event_model.specs.Queue.{doing_at, doing_of, is_assignment, is_body, is_input}
use Rattle.rtl_flat.specs.Flats.{Flat, widths}
use Rattle.net_model.specs.Control.{InClockCone, IsClockOrReset, IsFromTop, IsReached, Itself, Through, waits_for, whole_of}
use Rattle.event_runs.specs.event_laws.Steady.{AreLawful}
use Rattle.event_runs.proofs.event_laws_proofs.Laws.{writes_inside}
use Rattle.event_runs.proofs.event_laws_proofs.Within.{may_read_outside, target_inside}
use Rattle.event_runs.proofs.Signals.{assign_net, body_variable, net_input, variable_input}
use Rattle.event_runs.proofs.Writers.{assign_may, from_process, of_process}
use Rattle.event_settling.specs.Conditions.{AreRulesKept}
use Rattle.event_settling.specs.Settling.{IsConeDriver, IsSettling}
use Rattle.event_settling.proofs.Selecting.{none_in}

-- ---- items of lists

of_signal : (ws : ℕ → ℕ) (signal : ℕ) (selection : Selection) (i k : ℕ) → may_select ws signal selection i k ≡ true → i ≡ signal
of_signal ws signal Whole i k is = eqb-true i signal (and_parts (i == signal) _ is).0
of_signal ws signal (BitAt low index) i k is = eqb-true i signal (and_parts (i == signal) _ is).0
of_signal ws signal (BitBy low index) i k is = eqb-true i signal (and_parts (i == signal) _ is).0
of_signal ws signal (Part low width) i k is = eqb-true i signal (and_parts (i == signal) _ is).0

-- a signal of a list of edges that come from top inputs
listed_edge :
    (d : Flat) (events : List Watched) → All (λ item. IsTrue (has_edge item.edge)) events → All (λ item. IsFromTop d item.signal) events → (i k : ℕ) →
    items_list (widths d) events i k ≡ true → (list_any (waits_for i) events ≡ true) × IsFromTop d i
listed_edge d [] edges clocks i k is = absurd (false≢true is)
listed_edge d (item ∷ others) edges clocks i k is =
    elim (or_cases (may_select (widths d) item.signal item.selection i k) (items_list (widths d) others i k) is) [
      | inl here ↦
          let same = of_signal (widths d) item.signal item.selection i k here in
          let edge = All-head (λ (one : Watched). IsTrue (has_edge one.edge)) item others edges in
          let top = All-head (λ (one : Watched). IsFromTop d one.signal) item others clocks in (
            or_left (waits_for i item) (list_any (waits_for i) others) (and_from (item.signal == i) (has_edge item.edge) (eq-eqb item.signal i (sym same)) edge),
            subst (IsFromTop d) (sym same) top,
          )
      | inr there ↦
          let rest = listed_edge d others (All-tail (λ (one : Watched). IsTrue (has_edge one.edge)) item others edges) (All-tail (λ (one : Watched). IsFromTop d one.signal) item others clocks) i k there in
          (or_right (waits_for i item) (list_any (waits_for i) others) rest.0, rest.1)
    ]

module _ (d : Flat) (lawful : AreLawful d) (level : ℕ → Option ℕ) (h : AreRulesKept d level) where
  item_in_cone :
      (p : ℕ) (events : List Watched) (body : Actions) → doing_at d p ≡ Some (Edge' events body) → (i k : ℕ) →
      items_list (widths d) events i k ≡ true → InClockCone d i
  item_in_cone p events body e i k is =
      let (waits, top) = listed_edge d events (h.edges p events body e) (h.clocks p events body e) i k is in
      record {
        clock = top.top;
        is_clock = record {
          input = top.input;
          signal = i;
          reached = top.reached;
          edges = record { process = p; events = events; body = body; does = e; waits = waits };
        };
        reached = top.reached;
      }

  -- ---- who writes into the cone

  -- no process writes an input
  no_input : (p i k : ℕ) → OfProcess MayWrite d.signals d.tasks p i k → IsTrue (is_input d i) → ⊥
  no_input p i k may input = let (does, e, written) = of_process MayWrite d p i k may in by_kind does e
    where
      by_kind : (does : Doing) → doing_at d p ≡ Some does → ⊥
      by_kind (Assign target value) e = net_input d i (assign_net d lawful p (ap is_assignment e) i k may) input
      by_kind (Comb list body) e = variable_input d i (body_variable d lawful p (ap is_body e) i k may) input
      by_kind (Edge' events body) e = variable_input d i (body_variable d lawful p (ap is_body e) i k may) input

  alone_or : (b : Bool) → (b || false) ≡ true → b ≡ true
  alone_or true is = refl
  alone_or false is = is

  -- what is written lies inside its signal
  inside : (p i k : ℕ) (does : Doing) → doing_at d p ≡ Some does → MayWrite (flow_of (widths d) does) i k → k < widths d i
  inside p i k (Assign target value) e written =
      target_inside (widths d) target i k (alone_or (may_target (widths d) target i k) ((decided (flow_of (widths d) (Assign target value)) i k).writes.1 written))
  inside p i k (Comb list body) e written = writes_inside d body i k (lawful p (Comb list body) e).1 written
  inside p i k (Edge' events body) e written = writes_inside d body i k (lawful p (Edge' events body) e).2 written

  -- all of a signal has each bit of it
  whole_has : (i k : ℕ) (spot : Spot) → k < widths d i → may_target (widths d) (whole_of i spot) i k ≡ true
  whole_has i k spot below =
      let fits = lt-ltb k (widths d i) below in
      or_left _ false (and_from (i == i) _ (eq-eqb i i refl) (and_from _ _ (le-leb 0 k (omega arith)) (and_from _ _ fits fits)))

  -- a connection reads the cone alone, where what it reads is there
  connection_drives :
      (c a i q : ℕ) (spot : Spot) (value : Tree) → IsClockOrReset d c → IsReached d c a → doing_at d q ≡ Some (Assign (whole_of i spot) value) →
      ((j l : ℕ) → reads (widths d) value j l ≡ true → j ≡ a) → IsConeDriver d (InClockCone d) q
  connection_drives c a i q spot value clock before e alone =
      record {
        assigns = ap is_assignment e;
        reads = λ j l outside.
            let outside' = from_process ReadsOutside d q j l (Assign (whole_of i spot) value) e outside in
            let same = alone j l (alone_or (reads (widths d) value j l) ((decided (flow_of (widths d) (Assign (whole_of i spot) value)) j l).reads.1 (may_read_outside _ j l outside'))) in
            record { clock = c; is_clock = clock; reached = subst (IsReached d c) (sym same) before };
      }

  cone_driver : (p c i k : ℕ) → OfProcess MayWrite d.signals d.tasks p i k → IsClockOrReset d c → IsReached d c i → IsConeDriver d (InClockCone d) p
  cone_driver p c i k may clock Itself = absurd (no_input p c k may clock.input)
  cone_driver p c i k may clock (Through a j before passed) =
      let (does, e, written) = of_process MayWrite d p j k may in
      let connection = passed.connection in
      let spot = connection.spot in
      let other : doing_at d passed.process ≡ Some (Assign (whole_of j spot) passed.value) = ap doing_of connection.there ∙ ap Some connection.does in
      let own = assign_may (widths d) (whole_of j spot) passed.value j k (whole_has j k spot (inside p j k does e written)) in
      let same = h.alone p passed.process does (Assign (whole_of j spot) passed.value) e other j k written own in
      subst (IsConeDriver d (InClockCone d)) (sym same) (connection_drives c a j passed.process spot passed.value clock before other passed.alone.alone)

  pub rules_settle : IsSettling d level (InClockCone d)
  rules_settle =
      record {
        levels = h.levels;
        no_cycle = h.no_cycle;
        blocking = λ p list body e. none_in (widths d) body (h.select p list body e) (λ i k late. h.no_late p list body e i k ((decided (body_flow (widths d) body) i k).late.0 late));
        temporaries = h.temporaries;
        items = item_in_cone;
        drivers = λ p i k may cone. cone_driver p cone.clock i k may cone.is_clock cone.reached;
      }
