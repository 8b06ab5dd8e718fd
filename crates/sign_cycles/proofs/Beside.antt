-- A turn of a clock or a reset with data given beside it leads to what the turn and then the data lead to, and so do lists of such
-- steps.
use Rattle.std.proofs.Common.{◌≡◌, ◌≢◌, ◌∙◌, ℕ, false, cond, List, [], ◌∷◌, get_or, Option, Some, refl, sym, ap, subst}
use Rattle.std.specs.Prelude.{IsTrue}
use Rattle.std.specs.List.{All}
use Rattle.std.proofs.lemmas.List.Elements.{All-cons, All-head, All-nil, All-tail}
use Rattle.rtl_bits.specs.declared.Bit.{Bit}
use Rattle.rtl_bits.specs.declared.Bit.TheVariants.{X}
use Rattle.rtl_bits.specs.Bits.{has_unknown}
use Rattle.rtl_flat.specs.Process.{Watched, Actions, Edge'}
use Rattle.event_model.specs.Queue.{State, HasNoActive, Activate, doing_at, happens, is_input, offer, run}
use Rattle.rtl_flat.specs.Flats.{Flat, widths}
use Rattle.event_model.specs.Traces.{Same}
use Rattle.event_model.specs.Writes.{Values, put}
use Rattle.event_edges.proofs.event_laws_proofs.Lengths.{put_other}
use Rattle.net_model.specs.declared.fill.Fill.{Fill}
use Rattle.net_model.specs.Block.{block_bit}
use Rattle.net_model.specs.Control.{IsClockOrReset}
use Rattle.net_model.specs.Cycle.{Chain, Data, Guard, IsCycle, Setting, Step, Turn, clocked_bit, given_after, item_bit, register_bit, reset_bit, settings, strongest}
use Rattle.net_model.specs.Lawful.{AreLawfulSteps, SetsData, TurnsControl}
use Rattle.net_model.specs.Numbers.{bit}
use Rattle.net_model.specs.Solution.{IsRegisterBit, IsSolution}
use Rattle.net_model.specs.Gates.{IsGateInput}
use Rattle.net_model.proofs.Gates.{data_unclocked, gate_is_input}
use Rattle.event_edges.specs.event_runs.Nets.{given_with}
use Rattle.event_edges.specs.Moves.{Activated, IsActivated, IsBeside, NoneThere, gifts}
use Rattle.event_edges.specs.Synchronous.{IsItem}
use Rattle.event_edges.specs.Turned.{set_to}
use Rattle.event_edges.proofs.Cone.{item_clock}
use Rattle.event_edges.proofs.Laws.{taken_beside, turned_beside}
use Rattle.net_rest.specs.Rest.{AreHeld, IsHeldBit, numbers_of}
use Rattle.net_rest.proofs.Rest.{latch_keeps}
use Rattle.sign_cycles.specs.Agree.{AllShow, AreCycles, IsSettledKnown, after_offer}
use Rattle.sign_cycles.specs.Beside.{AreBenchRuns, BenchStep, BenchesAgree, BenchesAgreeClean, Beside, BesideFollows, IsBenchNext, IsNextBeside, Plain, TurnsClock, TurnsLead, at_ends, in_turn}
use Rattle.sign_cycles.specs.Formed.{IsCleanClocked}
use Rattle.sign_cycles.specs.Laws.{IsFollowed, StepsAreAlone, StepsFollow}
use Rattle.sign_cycles.specs.Round.{IsArrived}
use Rattle.sign_cycles.proofs.Alone.{reached_number, steps_alone}
use Rattle.sign_cycles.proofs.Chains.{strongest_same}
use Rattle.sign_cycles.proofs.DataSteps.{are_settings, data_are_unclocked, given_pairs, pairs}
use Rattle.sign_cycles.proofs.Edges as edge
use Rattle.sign_cycles.proofs.Followed as followed
use Rattle.sign_cycles.proofs.GateSteps.{data_leave}
use Rattle.sign_cycles.proofs.Held.{Leave, gate_no_clock, given_left, held_beside, latch_gate, leaves_pairs, still_closed}
use Rattle.sign_cycles.proofs.Lists.{GivesAlike, alone_lists, given_alike, lawful_alike, shows_all}
use Rattle.sign_cycles.proofs.Settled.{IsUnderWay, arrives, settled_way, way_after, way_moves, way_offer, way_run}
use Rattle.sign_cycles.proofs.Steps.{steps_follow}

-- data leave clocks and resets
pub given_leaves : (d : Flat) (v : Values) (all : List Setting) → All (SetsData d) all → (c : ℕ) → IsClockOrReset d c → given_after v all c ≡ v c
given_leaves d v [] set c clock = refl
given_leaves d v (setting ∷ all) set c clock =
    let one = All-head (SetsData d) setting all set in
    given_leaves d (put v setting.input setting.number) all (All-tail (SetsData d) setting all set) c clock
    ∙ put_other v setting.input c setting.number (λ same. (data_unclocked d setting.input one.data_input).no_clock (subst (IsClockOrReset d) same clock))

-- ---- one step

module _ (d : Flat) (chains : ℕ → Chain) (level : ℕ → ℕ) (clean : IsCleanClocked d chains level) (f : Fill) (s : State) (n : Values) (known : IsSettledKnown d chains f s n) (turn : Setting) (its_clock : IsClockOrReset d turn.input) (turns : TurnsControl d n turn) (given : List Setting) (set : All (SetsData d) given) (t : State) (next : IsNextBeside d s turn given t) where
  abbrev c : ℕ
  c = turn.input

  abbrev b : Bit
  b = get_or turn.number 0 X

  abbrev turned : Values
  turned = given_with n (pairs (turn ∷ []))

  abbrev inputs : Values
  inputs = given_with turned (pairs given)

  way : IsBeside d (set_to s c b) t
  way =
      subst (λ (bits : List Bit). IsBeside d (offer s ((c, bits) ∷ [])) t) (edge.number_is d chains level clean f s n known turn its_clock turns) next.way

  -- ---- where it comes to rest

  start_way : IsUnderWay d turned (after_offer s (turn ∷ []))
  start_way =
      way_offer d level clean.solvable n s (pairs (turn ∷ [])) (turns.can_be.wide, tt)
      (settled_way d level clean.solvable f s n (edge.settled d chains level clean f s n known turn its_clock turns))

  activated_way : (u v : State) → HasNoActive d u → IsActivated d u v → IsUnderWay d turned u → IsUnderWay d turned v
  activated_way u _ still (NoneThere none) way' = way'
  activated_way u _ still (Activated some) way' = way_after d level clean.solvable turned u way' Activate (still, some)

  end_way : IsUnderWay d (given_with turned (gifts next.way.late)) t
  end_way =
      subst (IsUnderWay d (given_with turned (gifts next.way.late))) next.way.leads
      (way_moves d level clean.solvable turned next.way.next next.way.late next.way.can_late
      (activated_way (run d (after_offer s (turn ∷ [])) next.way.early) next.way.next next.way.still next.way.activated
      (way_run d level clean.solvable turned (after_offer s (turn ∷ [])) next.way.early next.way.can_early start_way)))

  arrived : IsArrived d inputs t
  arrived =
      arrives d level clean.solvable inputs t (subst (λ (all : List (ℕ × List Bit)). IsUnderWay d (given_with turned all) t) next.gives end_way) next.rest

  -- neither the clock nor data set a gate
  module _ (g : ℕ) (gate : IsGateInput d g) where
    turn_leaves : Leave g (turn ∷ [])
    turn_leaves =
        All-cons (λ (one : Setting). one.input ≢ g) turn []
        (λ same. gate_no_clock d g gate (subst (IsClockOrReset d) same its_clock)) (All-nil (λ (one : Setting). one.input ≢ g))

    gate_stays : inputs g ≡ n g
    gate_stays = given_left turned g given (data_leave d given set g gate) ∙ given_left n g (turn ∷ []) turn_leaves

  -- so closed latches hold
  held : (i k : ℕ) → IsHeldBit d inputs i k → Same t.value s.value i k
  held i k is =
      let gate = latch_gate d i k is.latch in
      let left = turn_leaves is.latch.gate.input gate in
      let before = still_closed d inputs n i k is (gate_stays is.latch.gate.input gate) in
      held_beside d chains level clean i k is.latch f s n (edge.settled d chains level clean f s n known turn its_clock turns) before
      (pairs (turn ∷ [])) ((turns.can_be.wide, tt), leaves_pairs is.latch.gate.input (turn ∷ []) left) t next.way
      (subst (λ (all : List (ℕ × List Bit)). All (λ (one : ℕ × List Bit). one.0 ≢ is.latch.gate.input) all) (sym next.gives)
      (leaves_pairs is.latch.gate.input given (data_leave d given set is.latch.gate.input gate)))

  end : edge.IsEdgeEnd d inputs c b s t
  end =
      let start = edge.start d chains level clean f s n known turn its_clock turns in
      record {
        arrived = arrived;
        turned = turned_beside d clean.synchronous c (bit s.value c 0) b s start t way next.rest;
        taken = taken_beside d clean.synchronous c (bit s.value c 0) b s start t way next.rest;
        held = held;
      }

  inputs_known : (i : ℕ) → has_unknown (inputs i) ≡ false
  inputs_known =
      followed.given_known d level clean.solvable turned (pairs given) (are_settings d given (data_are_unclocked d given set))
      (followed.given_known d level clean.solvable n (pairs (turn ∷ [])) ((turns.can_be.wide, turns.can_be.known), tt) known.solution.numbers.known)

  -- ---- from the numbers after the turn

  abbrev new : Values
  new = numbers_of d f t.value

  module _ (m : Values) (cycle : IsCycle d chains f n (Turn turn) m) where
    turned_alike : GivesAlike d turned m
    turned_alike i input =
        ap (λ (v : Values). v i) (given_pairs n (turn ∷ [])) ∙ sym (cycle.inputs i input)

    -- in the numbers after the turn closed latches have what they have at the end
    holds : AreHeld d m t.value
    holds i k is =
        let gate = latch_gate d i k is.latch in
        let g = is.latch.gate.input in
        let input = gate_is_input d g gate in
        let at_turn : t.value g ≡ m g = arrived.inputs g input ∙ given_left turned g given (data_leave d given set g gate) ∙ turned_alike g input in
        latch_keeps d level clean.solvable f n m m known.solution.numbers cycle.rest i k (record { latch = is.latch; closed = still_closed d t.value m i k is at_turn })
        ∙ sym (edge.latch_holds d chains level clean f s n known turn its_clock turns inputs inputs_known t end i k is)

    solution : IsSolution d f m t.value new
    solution =
        (edge.all_followed d chains level clean f s n known turn its_clock turns inputs inputs_known t end m cycle.rest.numbers holds).solution

    new_inputs : (i : ℕ) → IsTrue (is_input d i) → new i ≡ given_after m given i
    new_inputs i input =
        solution.inputs i input
        ∙ arrived.inputs i input
        ∙ ap (λ (v : Values). v i) (given_pairs turned given)
        ∙ given_alike d turned m given turned_alike i input

    module _ (p : ℕ) (events : List Watched) (body : Actions) (is : doing_at d p ≡ Some (Edge' events body)) where
      -- clocks and resets are what they are after the turn
      item_same : (item : Watched) → IsItem d p events body item → item_bit new item ≡ item_bit m item
      item_same item here =
          let top = clean.synchronous.clocks p events body item here in
          let clock = item_clock d clean.synchronous p events body item here top.top top.input top.reached in
          reached_number d clean.synchronous f m t.value new solution top.top clock item.signal top.reached
          ∙ ap (λ (bits : List Bit). get_or bits 0 X) (new_inputs top.top top.input ∙ given_leaves d m given set top.top clock)
          ∙ sym (reached_number d clean.synchronous f n m m cycle.rest top.top clock item.signal top.reached)

      -- so registers take what they take at the turn
      register_same : (i k : ℕ) → register_bit (widths d) f n new (chains p) i k ≡ register_bit (widths d) f n m (chains p) i k
      register_same i k =
          let clock = (chains p).clock in
          let resets = edge.of_items d chains level clean p events body is (λ (item : Watched). item_bit new item ≡ item_bit m item) item_same in
          let at_clock = edge.of_clock d chains level clean p events body is (λ (item : Watched). item_bit new item ≡ item_bit m item) item_same in
          ap (λ (o : Option Guard). reset_bit (widths d) f n o (clocked_bit (widths d) f n new clock (chains p).part i k) i k) (strongest_same d new m (chains p).resets resets)
          ∙ ap (λ (x : Bit). reset_bit (widths d) f n (strongest m (chains p).resets) (cond (happens clock.edge (item_bit n clock) x) (block_bit (widths d) f n (chains p).part i k) (bit n i k)) i k) at_clock

    follows : IsCycle d chains f m (Data given) new
    follows =
        record {
          inputs = new_inputs;
          registers = λ p events body is i k may lasts.
              let register : IsRegisterBit d i k = record { process = p; events = events; body = body; does = is; may = may; lasting = lasts } in
              solution.kept i k register
              ∙ edge.registers_are d chains level clean f s n known turn its_clock turns inputs inputs_known t end i k register
              ∙ register_same p events body is i k
              ∙ sym (cycle.registers p events body is i k may lasts);
          rest = record {
            numbers = solution.numbers;
            inputs = λ i input. refl;
            kept = λ i k register. refl;
            assigns = solution.assigns;
            blocks = solution.blocks;
            others = solution.others;
          };
        }

    pub data_follow : IsFollowed d chains f m (Data given) t
    data_follow =
        record {
          next = new;
          follows = follows;
          settled = edge.known_after d chains level clean f s n known turn its_clock turns inputs inputs_known t end;
        }

pub beside_follows : (d : Flat) (chains : ℕ → Chain) (level : ℕ → ℕ) → IsCleanClocked d chains level → (f : Fill) → BesideFollows d chains f
beside_follows d chains level clean f s n known turn clock turns given set t next m cycle =
    data_follow d chains level clean f s n known turn clock turns given set t next m cycle

-- ---- lists of steps

module _ (d : Flat) (chains : ℕ → Chain) (f : Fill) where
  -- steps that are lawful behind what inputs are given are so behind the numbers that follow
  lawful_after :
      (n m : Values) (step : Step) → IsCycle d chains f n step m → (steps : List Step) →
      AreLawfulSteps d (given_after n (settings step)) steps → AreLawfulSteps d m steps
  lawful_after n m step cycle steps lawful =
      lawful_alike d (given_after n (settings step)) m (λ i is. sym (cycle.inputs i is)) steps lawful

  lawful_both :
      (n m : Values) (turn : Setting) → IsCycle d chains f n (Turn turn) m → (given : List Setting) (steps : List Step) →
      AreLawfulSteps d (given_after (given_after n (turn ∷ [])) given) steps → AreLawfulSteps d (given_after m given) steps
  lawful_both n m turn cycle given steps lawful =
      lawful_alike d (given_after (given_after n (turn ∷ [])) given) (given_after m given)
      (given_alike d (given_after n (turn ∷ [])) m given (λ i is. sym (cycle.inputs i is))) steps lawful

module _ (d : Flat) (chains : ℕ → Chain) (f : Fill) (by_step : StepsFollow d chains f) (alone : StepsAreAlone d chains f) (beside : BesideFollows d chains f) (lead : TurnsLead d chains f) where
  record AreShown (n : Values) (steps : List BenchStep) (states : List State) : Type 0 where
    numbers : List Values
    follow : AreCycles d chains f n (in_turn steps) numbers
    show : AllShow d states (at_ends steps numbers)

  -- a step leads to a settled state, behind which the other steps are lawful
  pub one_step :
      (s : State) (n : Values) → IsSettledKnown d chains f s n → (step : BenchStep) (steps : List BenchStep) →
      AreLawfulSteps d n (in_turn (step ∷ steps)) → TurnsClock d step → (t : State) → IsBenchNext d s step t →
      (m : Values) × IsSettledKnown d chains f t m × AreLawfulSteps d m (in_turn steps)
  one_step s n known (Plain step) steps lawful clock t next =
      let one = by_step s n known step lawful.0 t next in
      (one.next, one.settled, lawful_after d chains f n one.next step one.follows (in_turn steps) lawful.1)
  one_step s n known (Beside turn given) steps lawful clock t next =
      let m = lead s n known turn clock lawful.0 in
      let one = beside s n known turn clock lawful.0 given lawful.1.0 t next m.0 m.1 in (
        one.next,
        one.settled,
        lawful_after d chains f m.0 one.next (Data given) one.follows (in_turn steps)
            (lawful_both d chains f n m.0 turn m.1 given (in_turn steps) lawful.1.1),
      )

  shown :
      (s : State) (n : Values) → IsSettledKnown d chains f s n → (steps : List BenchStep) → AreLawfulSteps d n (in_turn steps) → All (TurnsClock d) steps →
      (states : List State) → AreBenchRuns d s steps states → AreShown n steps states
  shown s n known [] lawful clocks [] runs = record { numbers = []; follow = tt; show = tt }
  shown s n known [] lawful clocks (t ∷ states) runs = absurd runs
  shown s n known (step ∷ steps) lawful clocks [] runs = absurd runs
  shown s n known (Plain step ∷ steps) lawful clocks (t ∷ states) runs =
      let one = by_step s n known step lawful.0 t runs.0 in
      let rest = shown t one.next one.settled steps (lawful_after d chains f n one.next step one.follows (in_turn steps) lawful.1) (All-tail (TurnsClock d) (Plain step) steps clocks) states runs.1 in
      record {
        numbers = one.next ∷ rest.numbers;
        follow = (one.follows, rest.follow);
        show = (shows_all d chains f t one.next one.settled, rest.show);
      }
  shown s n known (Beside turn given ∷ steps) lawful clocks (t ∷ states) runs =
      let clock = All-head (TurnsClock d) (Beside turn given) steps clocks in
      let m = lead s n known turn clock lawful.0 in
      let one = beside s n known turn clock lawful.0 given lawful.1.0 t runs.0 m.0 m.1 in
      let behind = lawful_both d chains f n m.0 turn m.1 given (in_turn steps) lawful.1.1 in
      let rest = shown t one.next one.settled steps (lawful_after d chains f m.0 one.next (Data given) one.follows (in_turn steps) behind) (All-tail (TurnsClock d) (Beside turn given) steps clocks) states runs.1 in
      record {
        numbers = m.0 ∷ one.next ∷ rest.numbers;
        follow = (m.1, (one.follows, rest.follow));
        show = (shows_all d chains f t one.next one.settled, rest.show);
      }

  pub agree_by_bench : BenchesAgree d chains f
  agree_by_bench =
      record {
        agrees = λ s n known steps lawful clocks states runs.
            let it = shown s n known steps lawful clocks states runs in
            let numbers = known.solution.numbers in
            record {
              numbers = it.numbers;
              follow = it.follow;
              alone = λ others.
                  alone_lists d chains f alone n n numbers numbers (λ i k lasts. refl) (in_turn steps) it.numbers others it.follow;
              show = it.show;
            };
      }

pub benches_agree : (d : Flat) (chains : ℕ → Chain) (level : ℕ → ℕ) → BenchesAgreeClean d chains level
benches_agree d chains level clean f lead =
    agree_by_bench d chains f (steps_follow d chains level clean f) (steps_alone d chains level clean f) (beside_follows d chains level clean f) lead
