-- The definitions at work: an and gate is brought up and runs, two drivers of one net do not agree, and a net without a
-- driver never comes up.
use Rattle.std.proofs.Common.{◌≡◌, ◌<◌, ℕ, Bool, true, false, refl, sym, ap, subst, ◌∙◌, Option, Some, None, List, [], ◌∷◌, zero, suc, take, length, replicate, arith, inl, inr}
use Rattle.std.specs.Prelude.{IsTrue, IsSome, ◌⊎◌, ◌==◌, ◌&&◌, ◌||◌, nat_le, nat_lt}
use Rattle.std.specs.List.{All, list_any}
use Rattle.std.proofs.lemmas.Bool.{eqb-true, false≢true, ltb-true, true≢false}
use Rattle.std.proofs.lemmas.List.{length-replicate}
use Rattle.std.proofs.lemmas.List.Elements.{All-cons, All-nil}
use Rattle.rtl_bits.specs.declared.Bit.{Bit}
use Rattle.rtl_bits.specs.declared.Bit.TheVariants.{Zero, One, X}
use Rattle.rtl_bits.specs.Bit.{is_unknown}
use Rattle.rtl_bits.specs.Bits.{extended, has_unknown}
use Rattle.text_ground.specs.declared.text.Spot.{Spot}
use Rattle.rtl_flat.specs.declared.expr.Join.TheVariants as join
use Rattle.rtl_flat.specs.declared.signal.Kind.{Kind}
use Rattle.rtl_flat.specs.declared.signal.Kind.TheVariants.{TopInput, Net, Var}
use Rattle.rtl_flat.specs.declared.signal.Signal.{Signal}
use Rattle.rtl_flat.specs.Expression as sized
use Rattle.rtl_flat.specs.Flows.{flow_of, may_target}
use Rattle.rtl_flat.specs.Paths.{MayWrite}
use Rattle.rtl_flat.specs.PathSets.{OfProcess}
use Rattle.rtl_flat.specs.Process.{Piece, Task, Actions, Watched, Assign, Comb, Edge'}
use Rattle.rtl_flat.specs.Signs.{width_in}
use Rattle.rtl_flat.specs.Value.{value}
use Rattle.rtl_flat.proofs.Paths.{decided}
use Rattle.event_model.specs.Queue.{State, Event, Input, Evaluate, Update, doing_at, is_assignment, is_input, power_up, run, CanRun, IsAtRest}
use Rattle.rtl_flat.specs.Flats.{Flat}
use Rattle.event_model.specs.Writes.{Values, driven}
use Rattle.net_model.specs.declared.fill.Fill.{Fill}
use Rattle.net_model.specs.Control.{whole_of}
use Rattle.net_model.specs.Cycle.{Chain, Data, Setting}
use Rattle.net_model.specs.Gates.{IsControl}
use Rattle.net_model.specs.Lawful.{SetsData}
use Rattle.net_model.specs.Numbers.{bit, digits}
use Rattle.net_model.specs.Solution.{IsLasting, IsSolution}
use Rattle.sign_firm.specs.check_clean.sign_cycles.Agree.{Agree, AreCycles, AreRuns, IsSettledKnown, after_offer}
use Rattle.sign_firm.specs.check_clean.sign_cycles.BringUp.{BringsUp, IsBringUp, SetsInput, sets}

-- a signal of one bit, and where what stands at a place in the text does
abbrev bit_of : List ℕ → Kind → Bool → ℕ → Signal
bit_of path kind output at =
    record { path = path; width = 1; signed = false; low = 0; kind = kind; top_output = output; instance = 0; spot = record { file = 0; at = at } }

abbrev spot_at : ℕ → Spot
spot_at at = record { file = 0; at = at }

-- all of an input, and an assignment to all of a net
abbrev input_bit : ℕ → sized.Tree
input_bit i = sized.Sized 1 false (spot_at 0) (sized.Whole i)

abbrev drive : ℕ → sized.Tree → ℕ → Task
drive target e at = record { does = Assign (whole_of target (spot_at 0)) e; instance = 0; spot = spot_at at }

abbrev both_inputs : sized.Tree
both_inputs = sized.Sized 1 false (spot_at 0) (sized.Joined join.And false (input_bit 0) (input_bit 1))

-- `module top(input a, b, output y); assign y = a & b; endmodule`
abbrev ports : List Signal
ports = bit_of (97 ∷ []) TopInput false 17 ∷ bit_of (98 ∷ []) TopInput false 20 ∷ bit_of (121 ∷ []) Net true 30 ∷ []

abbrev gate : Flat
gate = record { signals = ports; tasks = drive 2 both_inputs 41 ∷ [] }

-- ---- it comes up: both inputs are set to 0

abbrev set_to : Bit → ℕ → Setting
set_to b i = record { input = i; number = b ∷ [] }

abbrev both : Bit → List Setting
both b = set_to b 0 ∷ set_to b 1 ∷ []

abbrev up_events : List Event
up_events = Input 0 ∷ Input 1 ∷ Evaluate 0 ∷ Update 0 ∷ []

abbrev low : State
low = run gate (after_offer (power_up gate) (both Zero)) up_events

up_runs : CanRun gate (after_offer (power_up gate) (both Zero)) up_events
up_runs = ((refl, refl), ((refl, refl), ((refl, refl), ((refl, refl), tt))))

-- what is due at the inputs
inputs_idle : (s : State) → s.offered 0 ≡ None → s.offered 1 ≡ None → (i : ℕ) → IsTrue (is_input gate i) → s.offered i ≡ None
inputs_idle s first second zero input = first
inputs_idle s first second (suc zero) input = second
inputs_idle s first second (suc (suc zero)) input = absurd (false≢true input)
inputs_idle s first second (suc (suc (suc i))) input = absurd (false≢true input)

at_rest : (s : State) → s.offered 0 ≡ None → s.offered 1 ≡ None → s.woken 0 ≡ false → s.pending 0 ≡ None → s.activated ≡ [] → s.delayed ≡ [] → IsAtRest gate s
at_rest s first second waits idle none later =
    record {
      no_active = record { inputs = inputs_idle s first second; processes = all_wait; drivers = all_idle; updates = none };
      no_delayed = later;
    }
  where
    all_wait : (p : ℕ) → IsSome (doing_at gate p) → s.woken p ≡ false
    all_wait zero there = waits
    all_wait (suc p) there = absurd (cc)

    all_idle : (p : ℕ) → IsTrue (is_assignment (doing_at gate p)) → s.pending p ≡ None
    all_idle zero there = idle
    all_idle (suc p) there = absurd (cc)

low_rests : IsAtRest gate low
low_rests = at_rest low refl refl refl refl refl refl

up_runs_are : AreRuns gate (power_up gate) (both Zero ∷ []) (low ∷ [])
up_runs_are =
    (record { reaches = record { events = up_events; can = up_runs; leads = refl }; rest = low_rests }, tt)

sets_input : (b : Bit) → has_unknown (b ∷ []) ≡ false → All (SetsInput gate) (both b)
sets_input b known =
    All-cons (SetsInput gate) (set_to b 0) (set_to b 1 ∷ []) (record { input = refl; can_be = record { wide = refl; known = known } })
    (All-cons (SetsInput gate) (set_to b 1) [] (record { input = refl; can_be = record { wide = refl; known = known } }) (All-nil (SetsInput gate)))

all_set : (i : ℕ) → IsTrue (is_input gate i) → IsTrue (list_any (sets i) (both Zero ∷ []))
all_set zero input = refl
all_set (suc zero) input = refl
all_set (suc (suc zero)) input = absurd (false≢true input)
all_set (suc (suc (suc i))) input = absurd (false≢true input)

no_block : (p : ℕ) (events : List Watched) (body : Actions) → doing_at gate p ≡ Some (Edge' events body) → ⊥
no_block zero events body is = cc
no_block (suc p) events body is = cc

no_body : (p : ℕ) (list : Option (List Watched)) (body : Actions) → doing_at gate p ≡ Some (Comb list body) → ⊥
no_body zero list body is = cc
no_body (suc p) list body is = cc

-- where nothing waits for edges and no body is without them, no input is a control input
uncontrolled : (d : Flat) → ((p : ℕ) (events : List Watched) (body : Actions) → doing_at d p ≡ Some (Edge' events body) → ⊥) → ((p : ℕ) (list : Option (List Watched)) (body : Actions) → doing_at d p ≡ Some (Comb list body) → ⊥) → (c : ℕ) → IsControl d c → ⊥
uncontrolled d no_edges no_bodies c (inl clock) =
    let edges = clock.edges in no_edges edges.process edges.events edges.body edges.does
uncontrolled d no_edges no_bodies c (inr latched) =
    let latch = latched.admitted.latch in no_bodies latched.process latch.list latch.body latch.does

comes_up : (chains : ℕ → Chain) → IsBringUp gate chains (both Zero ∷ [])
comes_up chains =
    record {
      some_step = λ none. cc;
      settings = All-cons (All (SetsInput gate)) (both Zero) [] (sets_input Zero refl) (All-nil (All (SetsInput gate)));
      all_set = all_set;
      resets = λ p events body here. absurd (no_block p events body here);
      gates = λ p one admitted. absurd (no_body p admitted.latch.list admitted.latch.body admitted.latch.does);
    }

-- ---- both inputs are set to 1, and the gate is evaluated before the second of them takes its value, and after it

abbrev early : List Event
early =
    Input 0 ∷ Evaluate 0 ∷ Input 1 ∷ Update 0 ∷ Evaluate 0 ∷ Update 0 ∷ []

abbrev high : State
high = run gate (after_offer low (both One)) early

early_runs : CanRun gate (after_offer low (both One)) early
early_runs = ((refl, refl), ((refl, refl), ((refl, refl), ((refl, refl), ((refl, refl), ((refl, refl), tt))))))

-- after four events the output is 0 still, at rest it is 1
early_glitch : (run gate (after_offer low (both One)) (take 4 early)).value 2 ≡ Zero ∷ []
early_glitch = refl

early_shows : high.value 2 ≡ One ∷ []
early_shows = refl

early_rests : IsAtRest gate high
early_rests = at_rest high refl refl refl refl refl refl

high_lawful : All (SetsData gate) (both One)
high_lawful =
    All-cons (SetsData gate) (set_to One 0) (set_to One 1 ∷ []) (one_set 0 refl refl)
    (All-cons (SetsData gate) (set_to One 1) [] (one_set 1 refl refl) (All-nil (SetsData gate)))
  where
    one_set : (i : ℕ) → IsTrue (is_input gate i) → 1 ≡ width_in ports i → SetsData gate (set_to One i)
    one_set i input wide =
        record {
          data_input = record { input = input; no_control = uncontrolled gate no_block no_body i };
          can_be = record { wide = wide; known = refl };
        }

-- ---- `assign y = a; assign y = b;`: the net is x where the drivers differ, and no number is both

abbrev two_drivers : Flat
two_drivers = record { signals = ports; tasks = drive 2 (input_bit 0) 41 ∷ drive 2 (input_bit 1) 57 ∷ [] }

-- all bits are 0 and nothing is to be done
abbrev zeros : Values
zeros i = replicate (width_in ports i) Zero

abbrev still : State
still =
    record {
      value = zeros;
      woken = λ p. false;
      driver = λ p. Zero ∷ [];
      pending = λ p. None;
      offered = λ i. None;
      activated = [];
      delayed = [];
    }

still_rests : IsAtRest two_drivers still
still_rests =
    record {
      no_active = record { inputs = λ i input. refl; processes = λ p there. refl; drivers = λ p there. refl; updates = refl };
      no_delayed = refl;
    }

zeros_wide : (i : ℕ) → length (zeros i) ≡ width_in ports i
zeros_wide i = length-replicate (width_in ports i) Zero

zeros_known : (i : ℕ) → has_unknown (zeros i) ≡ false
zeros_known zero = refl
zeros_known (suc zero) = refl
zeros_known (suc (suc zero)) = refl
zeros_known (suc (suc (suc i))) = refl

bit_known : (k : ℕ) → k < 1 → is_unknown (bit (λ i. Zero ∷ []) 0 k) ≡ false
bit_known zero inside = refl
bit_known (suc k) inside = absurd (omega (arith, inside))

zero_known : (i k : ℕ) → k < width_in ports i → is_unknown (bit zeros i k) ≡ false
zero_known zero k inside = bit_known k inside
zero_known (suc zero) k inside = bit_known k inside
zero_known (suc (suc zero)) k inside = bit_known k inside
zero_known (suc (suc (suc i))) k inside =
    absurd (let none : k < 0 = inside in omega (arith, none))

-- the two assignments
two_are : (p : ℕ) (target : List Piece) (e : sized.Tree) → doing_at two_drivers p ≡ Some (Assign target e) → (target ≡ whole_of 2 (spot_at 0)) × ((e ≡ input_bit 0) ⊎ (e ≡ input_bit 1))
two_are zero target e is = (cc, inl (cc))
two_are (suc zero) target e is = (cc, inr (cc))
two_are (suc (suc p)) target e is = absurd (cc)

no_list : (p : ℕ) (list : Option (List Watched)) (body : Actions) → doing_at two_drivers p ≡ Some (Comb list body) → ⊥
no_list zero list body is = cc
no_list (suc zero) list body is = cc
no_list (suc (suc p)) list body is = cc

no_edge : (p : ℕ) (events : List Watched) (body : Actions) → doing_at two_drivers p ≡ Some (Edge' events body) → ⊥
no_edge zero events body is = cc
no_edge (suc zero) events body is = cc
no_edge (suc (suc p)) events body is = cc

net_is : (i k : ℕ) → may_target (width_in ports) (whole_of 2 (spot_at 0)) i k ≡ true → (i ≡ 2) × (k ≡ 0)
net_is i k may =
    let inside = ltb-true k 1 (second_of (i == 2) (nat_le 0 k) (nat_lt k 1) may) in
    (eqb-true i 2 (first_of (i == 2) (nat_le 0 k) (nat_lt k 1) may), omega (arith, inside))
  where
    first_of : (x y z : Bool) → ((x && (y && (z && z))) || false) ≡ true → x ≡ true
    first_of true y z h = refl
    first_of false y z h = h

    second_of : (x y z : Bool) → ((x && (y && (z && z))) || false) ≡ true → z ≡ true
    second_of true true true h = refl
    second_of true true false h = h
    second_of true false z h = absurd (false≢true h)
    second_of false y z h = absurd (false≢true h)

driven_zero : (i k : ℕ) (bits : List Bit) → i ≡ 2 → k ≡ 0 → bits ≡ Zero ∷ [] → bit zeros i k ≡ bit (driven (width_in ports) (whole_of 2 (spot_at 0)) bits) i k
driven_zero i k bits net lowest zero_is =
    ap (λ j. bit zeros j k) net ∙ ap (bit zeros 2) lowest
    ∙ sym (ap (λ all. bit (driven (width_in ports) (whole_of 2 (spot_at 0)) all) i k) zero_is ∙ ap (λ j. bit (driven (width_in ports) (whole_of 2 (spot_at 0)) (Zero ∷ [])) j k) net ∙ ap (bit (driven (width_in ports) (whole_of 2 (spot_at 0)) (Zero ∷ [])) 2) lowest)

two_written : (k : ℕ) → k < 1 → OfProcess MayWrite ports two_drivers.tasks 0 2 k
two_written zero inside =
    (decided (flow_of (width_in ports) (Assign (whole_of 2 (spot_at 0)) (input_bit 0))) 2 0).writes.0 refl
two_written (suc k) inside = absurd (omega (arith, inside))

two_driven : (i k : ℕ) → k < width_in ports i → is_input two_drivers i ≡ false → ((p : ℕ) → OfProcess MayWrite ports two_drivers.tasks p i k → ⊥) → ⊥
two_driven zero k inside net free = true≢false net
two_driven (suc zero) k inside net free = true≢false net
two_driven (suc (suc zero)) k inside net free = free 0 (two_written k inside)
two_driven (suc (suc (suc i))) k inside net free =
    let none : k < 0 = inside in omega (arith, none)

module _ (chains : ℕ → Chain) (f : Fill) where
  two_solves : IsSolution two_drivers f zeros zeros zeros
  two_solves =
      record {
        numbers = record { wide = zeros_wide; known = zeros_known };
        inputs = λ i input. refl;
        kept = λ i k register. refl;
        assigns = λ p target e here i k may.
            let (whole, which) = two_are p target e here in
            let at = net_is i k (ap (λ t. may_target (width_in ports) t i k) (sym whole) ∙ may) in
            elim which [
              | inl first ↦ subst (λ t. bit zeros i k ≡ bit (driven (width_in ports) t (digits f zeros e)) i k) (sym whole)
                  (driven_zero i k (digits f zeros e) at.0 at.1 (ap (digits f zeros) first))
              | inr second ↦ subst (λ t. bit zeros i k ≡ bit (driven (width_in ports) t (digits f zeros e)) i k) (sym whole)
                  (driven_zero i k (digits f zeros e) at.0 at.1 (ap (digits f zeros) second))
            ];
        blocks = λ p list body here. absurd (no_list p list body here);
        others = λ i k inside net free. absurd (two_driven i k inside net free);
      }

  two_settled : IsSettledKnown two_drivers chains f still zeros
  two_settled =
      record {
        rest = still_rests;
        wide = zeros_wide;
        shows = λ i k inside lasts. record { known = zero_known i k inside; same = refl };
        drivers = λ p target e here.
            elim (two_are p target e here).1 [
              | inl first ↦ sym (ap (value zeros) first)
              | inr second ↦ sym (ap (value zeros) second)
            ];
        solution = two_solves;
        resets = λ p events body here. absurd (no_edge p events body here);
      }

-- one input is set to 1
abbrev apart_events : List Event
apart_events = Input 0 ∷ Evaluate 0 ∷ Update 0 ∷ []

abbrev apart : State
apart = run two_drivers (after_offer still (set_to One 0 ∷ [])) apart_events

two_runs : CanRun two_drivers (after_offer still (set_to One 0 ∷ [])) apart_events
two_runs = ((refl, refl), ((refl, refl), ((refl, refl), tt)))

two_shows : apart.value 2 ≡ X ∷ []
two_shows = refl

two_rests : IsAtRest two_drivers apart
two_rests =
    record {
      no_active = record { inputs = idle_inputs; processes = waits; drivers = idle; updates = refl };
      no_delayed = refl;
    }
  where
    idle_inputs : (i : ℕ) → IsTrue (is_input two_drivers i) → apart.offered i ≡ None
    idle_inputs zero input = refl
    idle_inputs (suc zero) input = refl
    idle_inputs (suc (suc zero)) input = absurd (false≢true input)
    idle_inputs (suc (suc (suc i))) input = absurd (false≢true input)

    waits : (p : ℕ) → IsSome (doing_at two_drivers p) → apart.woken p ≡ false
    waits zero there = refl
    waits (suc zero) there = refl
    waits (suc (suc p)) there = absurd (cc)

    idle : (p : ℕ) → IsTrue (is_assignment (doing_at two_drivers p)) → apart.pending p ≡ None
    idle zero there = refl
    idle (suc zero) there = refl
    idle (suc (suc p)) there = absurd (cc)

apart_lawful : All (SetsData two_drivers) (set_to One 0 ∷ [])
apart_lawful =
    All-cons (SetsData two_drivers) (set_to One 0) [] (record {
      data_input = record { input = refl; no_control = uncontrolled two_drivers no_edge no_list 0 };
      can_be = record { wide = refl; known = refl };
    }) (All-nil (SetsData two_drivers))

-- what an assignment of an input's bits gives
abbrev net : List Bit → Bit
net bits = bit (driven (width_in ports) (whole_of 2 (spot_at 0)) (extended 1 false bits)) 2 0

two_drivers_disagree : (chains : ℕ → Chain) (f : Fill) → Agree two_drivers chains f → ⊥
two_drivers_disagree chains f agree =
    let runs : AreRuns two_drivers still ((set_to One 0 ∷ []) ∷ []) (apart ∷ []) =
    (record { reaches = record { events = apart_events; can = two_runs; leads = refl }; rest = two_rests }, tt) in
    let all = agree.agrees still zeros (two_settled chains f) (Data (set_to One 0 ∷ []) ∷ []) (apart_lawful, tt) (apart ∷ []) runs in
    none all.numbers all.follow
  where
    none : (numbers : List Values) → AreCycles two_drivers chains f zeros (Data (set_to One 0 ∷ []) ∷ []) numbers → ⊥
    none [] follow = follow
    none (next ∷ others) follow =
        let first : bit next 2 0 ≡ One = follow.0.rest.assigns 0 (whole_of 2 (spot_at 0)) (input_bit 0) refl 2 0 refl ∙ ap net (follow.0.inputs 0 refl) in
        let second : bit next 2 0 ≡ Zero = follow.0.rest.assigns 1 (whole_of 2 (spot_at 0)) (input_bit 1) refl 2 0 refl ∙ ap net (follow.0.inputs 1 refl) in
        absurd (let no : One ≡ Zero = sym first ∙ second in cc)

-- ---- `module top(input a, output y); endmodule`: the output keeps the z of power-up

abbrev no_driver : Flat
no_driver = record { signals = bit_of (97 ∷ []) TopInput false 17 ∷ bit_of (121 ∷ []) Net true 27 ∷ []; tasks = [] }

abbrev first_step : List Setting
first_step = set_to One 0 ∷ []

abbrev up : State
up = run no_driver (after_offer (power_up no_driver) first_step) (Input 0 ∷ [])

up_rests : IsAtRest no_driver up
up_rests =
    record {
      no_active = record { inputs = idle; processes = λ p there. absurd (cc); drivers = λ p there. absurd (cc); updates = refl };
      no_delayed = refl;
    }
  where
    idle : (i : ℕ) → IsTrue (is_input no_driver i) → up.offered i ≡ None
    idle zero input = refl
    idle (suc zero) input = absurd (false≢true input)
    idle (suc (suc i)) input = absurd (false≢true input)

no_driver_set : (i : ℕ) → IsTrue (is_input no_driver i) → IsTrue (list_any (sets i) (first_step ∷ []))
no_driver_set zero input = refl
no_driver_set (suc zero) input = absurd (false≢true input)
no_driver_set (suc (suc i)) input = absurd (false≢true input)

output_lasts : IsLasting no_driver 1
output_lasts temporary =
    let no : Net ≡ Var = temporary.of_process.variable in absurd (cc)

no_driver_stays : (chains : ℕ → Chain) (f : Fill) → BringsUp no_driver chains f → ⊥
no_driver_stays chains f brings =
    let sets_it : All (SetsInput no_driver) first_step =
    All-cons (SetsInput no_driver) (set_to One 0) [] (record { input = refl; can_be = record { wide = refl; known = refl } }) (All-nil (SetsInput no_driver)) in
    let (n, settled) = brings.settles (first_step ∷ []) (record {
      some_step = λ none. cc;
      settings = All-cons (All (SetsInput no_driver)) first_step [] sets_it (All-nil (All (SetsInput no_driver)));
      all_set = no_driver_set;
      resets = λ p events body here. absurd (cc);
      gates = λ p one admitted. let here = admitted.latch.does in absurd (cc);
    }) (up ∷ []) (record { reaches = record { events = Input 0 ∷ []; can = ((refl, refl), tt); leads = refl }; rest = up_rests }, tt) in
    true≢false (settled.shows 1 0 (omega arith) output_lasts).known
