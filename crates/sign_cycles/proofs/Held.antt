-- Latches that are closed after a step hold what they had before it.
use Rattle.std.proofs.Common.{◌≡◌, ◌≢◌, ◌∙◌, ◌<◌, ◌==◌, ℕ, Bool, false, List, [], ◌∷◌, get_or, refl, sym, ap, subst, inl, inr, arith}
use Rattle.std.specs.List.{All}
use Rattle.std.proofs.lemmas.Bool.{and_from, and_parts, cases_eq, eq-eqb, eqb-true, le-leb, lt-ltb}
use Rattle.std.proofs.lemmas.List.Elements.{All-cons, All-head, All-nil, All-tail}
use Rattle.rtl_bits.specs.declared.Bit.{Bit}
use Rattle.rtl_bits.specs.declared.Bit.TheVariants.{X}
use Rattle.rtl_bits.specs.Bits.{same_bit}
use Rattle.text_ground.specs.declared.text.Spot.{Spot}
use Rattle.rtl_flat.specs.Expression.{Sized}
use Rattle.rtl_flat.specs.Expression as tree
use Rattle.rtl_flat.specs.Process.{Actions, Comb}
use Rattle.event_model.specs.Queue.{State, Event, CanRun, Reaches, offer, run}
use Rattle.rtl_flat.specs.Flats.{Flat, widths}
use Rattle.event_model.specs.Traces.{Same}
use Rattle.event_model.specs.Writes.{Values, put}
use Rattle.event_edges.specs.event_laws.Steady.{HaveWidths}
use Rattle.event_edges.proofs.event_laws_proofs.Laws.{writes_variables}
use Rattle.event_edges.proofs.event_laws_proofs.Lengths.{put_at, put_other}
use Rattle.net_model.specs.declared.fill.Fill.{Fill}
use Rattle.net_model.specs.Control.{IsClockOrReset, IsReached, ReadsAlone}
use Rattle.net_model.specs.Control as control
use Rattle.net_model.specs.Cycle.{Chain, Setting}
use Rattle.net_model.specs.Gates.{Gate, GoesTo, IsGateInput, IsLatchBit, Itself, Through, is_open}
use Rattle.net_model.specs.Lawful.{IsSetting}
use Rattle.net_model.specs.Numbers.{bit}
use Rattle.event_edges.specs.event_runs.Nets.{AreWide, given_with}
use Rattle.event_edges.specs.event_runs.Writers.{IsOrderly}
use Rattle.event_edges.proofs.event_runs_proofs.Inputs.{offer_is, orderly_offer}
use Rattle.event_edges.specs.Moves.{IsBeside, Move, gifts, move_all}
use Rattle.event_edges.specs.Turned.{set_to}
use Rattle.event_edges.proofs.Cone.{reached_apart}
use Rattle.event_edges.proofs.Ports.{one_bit}
use Rattle.event_gates.specs.Fixed.{CanMoveApart, IsFixed, IsFixedRun, IsShutBit, SetsOthers}
use Rattle.event_gates.specs.Gates.{AreFed}
use Rattle.event_gates.proofs.Laws.{beside_fixes, closes, moves_fix, rest_fixed, runs_fix}
use Rattle.net_rest.specs.Rest.{IsGated, IsHeldBit}
use Rattle.net_rest.proofs.Latches.{closed_makes}
use Rattle.net_rest.proofs.Levels.{read_lasts}
use Rattle.net_rest.proofs.Rest.{gate_has, latch_may, solution_rests}
use Rattle.sign_cycles.specs.Agree.{IsNext}
use Rattle.sign_cycles.specs.Formed.{IsCleanClocked}
use Rattle.sign_cycles.specs.Round.{IsSettled}
use Rattle.sign_cycles.proofs.DataSteps.{pairs}
use Rattle.sign_cycles.proofs.Settled.{settled_way}

-- ---- what is set

-- a latch is closed where its gate's input is as where it is closed
pub still_closed :
    (d : Flat) (v u : Values) (i k : ℕ) (is : IsHeldBit d v i k) → v is.latch.gate.input ≡ u is.latch.gate.input →
    is_open u is.latch.gate ≡ false
still_closed d v u i k is same =
    ap (λ (bits : List Bit). same_bit (get_or bits 0 X) is.latch.gate.opens) (sym same) ∙ is.closed

-- its gate's input is one of a gate, and so no clock and no reset
pub latch_gate : (d : Flat) (i k : ℕ) (latch : IsLatchBit d i k) → IsGateInput d latch.gate.input
latch_gate d i k latch = record { process = latch.process; gate = latch.gate; admitted = latch.admitted; same = refl }

pub gate_no_clock : (d : Flat) (c : ℕ) → IsGateInput d c → IsClockOrReset d c → ⊥
gate_no_clock d c gate clock = gate.admitted.no_clock (subst (IsClockOrReset d) (sym gate.same) clock)

-- settings that leave an input
abbrev pub Leave : ℕ → List Setting → Type 0
Leave c all = All (λ (setting : Setting). setting.input ≢ c) all

-- as do those that set no gate
pub gates_left : (d : Flat) (all : List Setting) → All (λ (setting : Setting). IsGateInput d setting.input → ⊥) all → (g : ℕ) → IsGateInput d g → Leave g all
gates_left d [] none g gate = All-nil (λ (one : Setting). one.input ≢ g)
gates_left d (setting ∷ all) none g gate =
    All-cons (λ (one : Setting). one.input ≢ g) setting all
    (λ same. All-head (λ (one : Setting). IsGateInput d one.input → ⊥) setting all none (subst (IsGateInput d) (sym same) gate))
    (gates_left d all (All-tail (λ (one : Setting). IsGateInput d one.input → ⊥) setting all none) g gate)

pub given_left : (v : Values) (c : ℕ) (all : List Setting) → Leave c all → given_with v (pairs all) c ≡ v c
given_left v c [] left = refl
given_left v c (setting ∷ all) left =
    given_left (put v setting.input setting.number) c all (All-tail (λ (one : Setting). one.input ≢ c) setting all left)
    ∙ put_other v setting.input c setting.number (λ same. All-head (λ (one : Setting). one.input ≢ c) setting all left (sym same))

pub leaves_pairs : (c : ℕ) (all : List Setting) → Leave c all → All (λ (one : ℕ × List Bit). one.0 ≢ c) (pairs all)
leaves_pairs c [] left = All-nil (λ (one : ℕ × List Bit). one.0 ≢ c)
leaves_pairs c (setting ∷ all) left =
    All-cons (λ (one : ℕ × List Bit). one.0 ≢ c) (setting.input, setting.number) (pairs all)
    (All-head (λ (one : Setting). one.input ≢ c) setting all left) (leaves_pairs c all (All-tail (λ (one : Setting). one.input ≢ c) setting all left))

-- ---- gates

-- a plain name is read alone
reads_alone : (ws : ℕ → ℕ) (signed : Bool) (spot : Spot) (i : ℕ) → ws i ≡ 1 → ReadsAlone ws (Sized 1 signed spot (tree.Whole i)) i
reads_alone ws signed spot i one =
    let inside : 0 < ws i = omega (arith, one) in
    record {
      bit = 0;
      read = and_from _ _ (eq-eqb i i refl) (and_from _ _ (le-leb 0 0 (omega arith)) (and_from _ _ (lt-ltb 0 (ws i) inside) (lt-ltb 0 (ws i) inside)));
      alone = λ j k h. eqb-true j i (and_parts (j == i) _ h).0;
    }

-- what comes from an input by plain ports is reached from it
gate_reached : (d : Flat) (top s : ℕ) → GoesTo d top s → IsReached d top s
gate_reached d top s Itself = control.Itself
gate_reached d top s (Through i j p task goes there plain) =
    control.Through i j (gate_reached d top i goes)
    (record {
      process = p;
      value = Sized 1 plain.signed plain.spot (tree.Whole i);
      connection = record { task = task; spot = plain.at; there = there; does = plain.does; outside = plain.outside };
      alone = reads_alone (widths d) plain.signed plain.spot i plain.one_bit;
      one_bit = plain.one_bit;
      port_bit = plain.port_bit;
    })

module _ (d : Flat) (chains : ℕ → Chain) (level : ℕ → ℕ) (clean : IsCleanClocked d chains level) where
  -- ---- one latch

  module _ (i k : ℕ) (latch : IsLatchBit d i k) where
    abbrev gate : Gate
    gate = latch.gate

    abbrev body : Actions
    body = latch.admitted.latch.body

    gated : IsGated d body gate
    gated =
        clean.solvable.gated latch.process latch.admitted.latch.list body latch.admitted.latch.does gate latch.admitted

    fed : AreFed d gate.input
    fed = (clean.gates latch.process gate latch.admitted).fed

    -- a variable isn't reached from an input
    unreached : IsReached d gate.input i → ⊥
    unreached reached =
        reached_apart d clean.synchronous gate.input gated.input i reached
        (writes_variables d body i k (clean.solvable.lawful latch.process (Comb latch.admitted.latch.list body) latch.admitted.latch.does).1 (latch_may d level clean.solvable i k latch))

    shut_bit : (v : Values) → HaveWidths d v → same_bit (bit v gate.signal 0) gate.opens ≡ false → IsShutBit d gate.input v i k
    shut_bit v wide closed =
        let may = latch_may d level clean.solvable i k latch in
        let plain = (clean.solvable.computing latch.process latch.admitted.latch.list body latch.admitted.latch.does).plain in
        record {
          process = latch.process;
          list = latch.admitted.latch.list;
          body = body;
          does = latch.admitted.latch.does;
          gate = gate.signal;
          reached = gate_reached d gate.input gate.signal latch.admitted.latch.comes.goes;
          level = bit v gate.signal 0;
          closed = one_bit (v gate.signal) (bit v gate.signal 0) (wide gate.signal ∙ gated.one_bit) refl;
          shuts = λ u have same.
              closed_makes d body gate gated u have (ap (λ (bits : List Bit). same_bit (get_or bits 0 X) gate.opens) same ∙ closed);
          may = may;
          sole = plain.alone i k may;
          no_late = plain.no_late i k;
        }

    -- ---- from a settled state

    module _ (f : Fill) (s : State) (n : Values) (settled : IsSettled d f s n) where
      order : IsOrderly d s
      order = (settled_way d level clean.solvable f s n settled).orderly

      -- the gate has its input's bit
      gate_now : bit s.value gate.signal 0 ≡ bit n gate.input 0
      gate_now =
          settled.shows gate.signal 0
          (read_lasts d latch.process (Comb latch.admitted.latch.list body) latch.admitted.latch.does gate.signal 0 gated.outside)
          ∙ gate_has d level clean.solvable n n
          (solution_rests d level clean.solvable f n n n settled.solution.numbers settled.solution (λ j l is. refl)) body gate gated

      -- where the input isn't set
      module _ (closed : is_open n gate ≡ false) (step : List (ℕ × List Bit)) (others : SetsOthers d gate.input step) where
        abbrev u : State
        u = offer s step

        same_value : Same u.value s.value i k
        same_value = ap (λ (x : State). bit x.value i k) (offer_is s step)

        order_given : IsOrderly d u
        order_given = orderly_offer d s step others.0 order

        fixed : IsFixed d gate.input u
        fixed = rest_fixed d clean.solvable.lawful gate.input s settled.rest step others

        shut : IsShutBit d gate.input u.value i k
        shut =
            subst (λ (x : State). IsShutBit d gate.input x.value i k) (sym (offer_is s step))
            (shut_bit s.value settled.wide (ap (λ b. same_bit b gate.opens) gate_now ∙ closed))

        holds : (t : State) → IsFixedRun d gate.input u t → Same t.value s.value i k
        holds t run' = run'.latches i k shut ∙ same_value

        pub held_run : (events : List Event) → CanRun d (offer s step) events → Same (run d (offer s step) events).value s.value i k
        held_run events can =
            holds (run d u events) (runs_fix d clean.solvable.lawful gate.input fed u order_given fixed events can)

        pub held_moves : (moves : List Move) → CanMoveApart d gate.input (offer s step) moves → Same (move_all d (offer s step) moves).value s.value i k
        held_moves moves can =
            holds (move_all d u moves) (moves_fix d clean.solvable.lawful gate.input fed u order_given fixed moves can)

        pub held_beside :
            (t : State) (way : IsBeside d (offer s step) t) → All (λ (one : ℕ × List Bit). one.0 ≢ gate.input) (gifts way.late) →
            Same t.value s.value i k
        held_beside t way left =
            holds t (beside_fixes d clean.solvable.lawful gate.input fed u order_given fixed t way left)

      -- where it alone is set, so that the latch closes
      pub held_closing :
          (b : Bit) → same_bit b gate.opens ≡ false → (events : List Event) → CanRun d (set_to s gate.input b) events →
          Same (run d (set_to s gate.input b) events).value s.value i k
      held_closing b closed events can =
          (closes d clean.synchronous gate.input b ((clean.gates latch.process gate latch.admitted).shutter b closed) s settled.rest settled.wide events can).kept
          i k unreached

  -- ---- after a step

  module _ (f : Fill) (s : State) (n : Values) (settled : IsSettled d f s n) where
    -- the gate was closed before
    pub closed_before : (all : List Setting) (i k : ℕ) (is : IsHeldBit d (given_with n (pairs all)) i k) → Leave is.latch.gate.input all → is_open n is.latch.gate ≡ false
    closed_before all i k is left =
        still_closed d (given_with n (pairs all)) n i k is (given_left n is.latch.gate.input all left)

    -- gates that aren't set
    pub held_unset :
        (all : List Setting) → AreWide d (pairs all) → (i k : ℕ) (is : IsHeldBit d (given_with n (pairs all)) i k) → Leave is.latch.gate.input all →
        (t : State) → IsNext d s all t → Same t.value s.value i k
    held_unset all wide i k is left t next =
        ap (λ (x : State). bit x.value i k) (sym next.reaches.leads)
        ∙ held_run i k is.latch f s n settled (closed_before all i k is left) (pairs all) (wide, leaves_pairs is.latch.gate.input all left) next.reaches.events next.reaches.can

    -- a step of one input
    pub held_turn :
        (setting : Setting) → IsSetting d setting → (i k : ℕ) → IsHeldBit d (given_with n (pairs (setting ∷ []))) i k →
        (t : State) → IsNext d s (setting ∷ []) t → Same t.value s.value i k
    held_turn setting can_be i k is t next =
        elim (cases_eq setting.input is.latch.gate.input) [
          | inl same ↦ by_closing same
          | inr other ↦
              held_unset (setting ∷ []) (can_be.wide, tt) i k is
              (All-cons (λ (one : Setting). one.input ≢ is.latch.gate.input) setting [] other (All-nil (λ (one : Setting). one.input ≢ is.latch.gate.input))) t next
        ]
      where
        closed : setting.input ≡ is.latch.gate.input → same_bit (get_or setting.number 0 X) is.latch.gate.opens ≡ false
        closed same =
            ap (λ (bits : List Bit). same_bit (get_or bits 0 X) is.latch.gate.opens) (sym (put_at n setting.input is.latch.gate.input setting.number (sym same)))
            ∙ is.closed

        number_is : setting.input ≡ is.latch.gate.input → setting.number ≡ get_or setting.number 0 X ∷ []
        number_is same =
            one_bit setting.number (get_or setting.number 0 X)
            (can_be.wide ∙ ap (widths d) same
            ∙ ((clean.gates is.latch.process is.latch.gate is.latch.admitted).shutter (get_or setting.number 0 X) (closed same)).one_bit is.latch.gate.input control.Itself) refl

        reaches : setting.input ≡ is.latch.gate.input → Reaches d (set_to s is.latch.gate.input (get_or setting.number 0 X)) t
        reaches same =
            subst (λ (one : ℕ × List Bit). Reaches d (offer s (one ∷ [])) t)
            (ap (λ (j : ℕ). (j, setting.number)) same ∙ ap (λ (bits : List Bit). (is.latch.gate.input, bits)) (number_is same)) next.reaches

        by_closing : setting.input ≡ is.latch.gate.input → Same t.value s.value i k
        by_closing same =
            let way = reaches same in
            ap (λ (x : State). bit x.value i k) (sym way.leads)
            ∙ held_closing i k is.latch f s n settled (get_or setting.number 0 X) (closed same) way.events way.can
