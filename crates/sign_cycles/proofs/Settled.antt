-- What a settled state keeps on from there.
use Rattle.std.proofs.Common.{◌≡◌, ◌∙◌, ◌++◌, ℕ, Bool, true, List, [], ◌∷◌, Option, Some, refl, sym, ap, subst, inl, inr}
use Rattle.std.specs.Prelude.{IsTrue, unwrap_or}
use Rattle.std.specs.Option.{is_some}
use Rattle.std.specs.List.{All}
use Rattle.std.proofs.lemmas.Bool.{cases_Bool, or_left}
use Rattle.std.proofs.lemmas.List.{ext_get_or}
use Rattle.std.proofs.lemmas.List.Elements.{All-nil}
use Rattle.rtl_bits.specs.declared.Bit.{Bit}
use Rattle.rtl_bits.specs.declared.Bit.TheVariants.{X}
use Rattle.rtl_bits.specs.Bits.{same_bit}
use Rattle.rtl_flat.specs.Flows.{body_flow, flow_of}
use Rattle.rtl_flat.specs.Paths.{ReadsOutside, may_write}
use Rattle.rtl_flat.specs.Process.{Actions, Assign, Comb, Doing, Watched}
use Rattle.rtl_flat.proofs.Paths.{decided}
use Rattle.event_model.specs.Queue.{State, Event, CanRun, IsAtRest, IsThere, after, doing_at, is_assignment, is_input, offer, run}
use Rattle.rtl_flat.specs.Flats.{Flat, widths}
use Rattle.event_model.specs.Traces.{Same}
use Rattle.event_model.specs.Writes.{Values, driven, put}
use Rattle.net_rest.specs.event_laws.Steady.{IsWithin}
use Rattle.net_model.specs.declared.fill.Fill.{Fill}
use Rattle.net_model.specs.Numbers.{bit}
use Rattle.net_model.specs.Solution.{IsLasting}
use Rattle.net_rest.specs.event_runs.Effects.{runs}
use Rattle.net_rest.specs.event_runs.Nets.{AreDriven, AreOffered, AreResolved, AreWide, given_with}
use Rattle.net_rest.specs.event_runs.Plain.{AreStill, ran_after, ran_by}
use Rattle.net_rest.specs.event_runs.Writers.{IsOrderly}
use Rattle.net_rest.proofs.event_runs_proofs.Inputs.{offer_is, offered_event, offered_offer, orderly_offer}
use Rattle.net_rest.proofs.event_runs_proofs.Late.{late_none, orderly_after}
use Rattle.net_rest.proofs.event_runs_proofs.Nets.{driven_from, driver_value, resolved_after, resolved_from}
use Rattle.net_rest.proofs.event_runs_proofs.Signals.{variable_input}
use Rattle.net_rest.proofs.event_runs_proofs.Still.{still_after}
use Rattle.event_edges.specs.Moves.{CanMove, Give, Move, Take, gifts, move_all}
use Rattle.event_edges.proofs.Moves.{set_wide}
use Rattle.net_rest.specs.Rest.{IsIdle, IsSolvable}
use Rattle.net_rest.proofs.Computing.{after_same, closed_stays, others_stay, takes_path, value_same}
use Rattle.net_rest.proofs.Levels.{assign_reads, read_lasts}
use Rattle.net_rest.proofs.Rest.{gate_has, live_by, net_lasts, solution_rests}
use Rattle.sign_cycles.specs.Round.{AreSettings, IsArrived, IsRound, IsSettled, Round, after_round}

-- an input is no temporary
pub input_lasts : (d : Flat) (i : ℕ) → IsTrue (is_input d i) → IsLasting d i
input_lasts d i is temporary = variable_input d i temporary.of_process.variable is

-- what has run has run
pub ran_stays : (ran : ℕ → Bool) (events : List Event) (p : ℕ) → ran p ≡ true → ran_after ran events p ≡ true
ran_stays ran [] p is = is
ran_stays ran (event ∷ events) p is = ran_stays (ran_by ran event) events p (or_left (ran p) (runs event p) is)

pub are_wide : (d : Flat) (step : List (ℕ × List Bit)) → AreSettings d step → AreWide d step
are_wide d [] settings = tt
are_wide d ((i, bits) ∷ others) settings = (settings.0.0, are_wide d others settings.1)

-- what holds on the way from a settled state, whatever events are taken and values are offered: the state is orderly, its
-- nets show their drivers, its inputs come to what is given, and its blocks, each of which has run, are consistent
pub record IsUnderWay (d : Flat) (given : Values) (s : State) : Type 0 where
  pub orderly : IsOrderly d s
  pub resolved : AreResolved d s
  pub offered : AreOffered d given s
  pub ran : ℕ → Bool
  pub has_run : (p : ℕ) → ran p ≡ true
  pub still : AreStill d ran s

-- values that are offered one list after another
pub given_append : (given : Values) (first second : List (ℕ × List Bit)) → given_with given (first ++ second) ≡ given_with (given_with given first) second
given_append given [] second = refl
given_append given ((i, bits) ∷ first) second = given_append (put given i bits) first second

module _ (d : Flat) (level : ℕ → ℕ) (solvable : IsSolvable d level) where
  -- ---- on the way

  pub way_after : (given : Values) (s : State) → IsUnderWay d given s → (event : Event) → IsThere d s event → IsUnderWay d given (after d s event)
  way_after given s way event there =
      record {
        orderly = orderly_after d solvable.lawful s event there way.orderly;
        resolved = resolved_after d solvable.lawful s event there way.orderly way.resolved;
        offered = offered_event d solvable.lawful given s event there way.orderly way.offered;
        ran = ran_by way.ran event;
        has_run = λ p. or_left (way.ran p) (runs event p) (way.has_run p);
        still = still_after d solvable.lawful way.ran s event there way.orderly way.still;
      }

  pub way_run : (given : Values) (s : State) (events : List Event) → CanRun d s events → IsUnderWay d given s → IsUnderWay d given (run d s events)
  way_run given s [] can way = way
  way_run given s (event ∷ events) can way =
      way_run given (after d s event) events can.1 (way_after given s way event can.0)

  pub way_offer :
      (given : Values) (s : State) (step : List (ℕ × List Bit)) → AreWide d step → IsUnderWay d given s →
      IsUnderWay d (given_with given step) (offer s step)
  way_offer given s step wide way =
      record {
        orderly = orderly_offer d s step wide way.orderly;
        resolved = subst (AreResolved d) (sym (offer_is s step)) way.resolved;
        offered = offered_offer d given s step wide way.offered;
        ran = way.ran;
        has_run = way.has_run;
        still = subst (AreStill d way.ran) (sym (offer_is s step)) way.still;
      }

  pub way_moves :
      (given : Values) (s : State) (moves : List Move) → CanMove d s moves → IsUnderWay d given s →
      IsUnderWay d (given_with given (gifts moves)) (move_all d s moves)
  way_moves given s [] can way = way
  way_moves given s (Take event ∷ moves) can way =
      way_moves given (after d s event) moves can.1 (way_after given s way event can.0)
  way_moves given s (Give step ∷ moves) can way =
      subst (λ (v : Values). IsUnderWay d v (move_all d (offer s step) moves)) (sym (given_append given step (gifts moves)))
      (way_moves (given_with given step) (offer s step) moves can.1 (way_offer given s step (set_wide d step can.0) way))

  -- where a state comes to rest
  pub arrived :
      (given : Values) (ran : ℕ → Bool) (t : State) → IsOrderly d t → AreResolved d t → AreOffered d given t → AreStill d ran t → IsAtRest d t →
      ((p : ℕ) (list : Option (List Watched)) (body : Actions) → doing_at d p ≡ Some (Comb list body) → ran p ≡ true) → IsArrived d given t
  arrived given ran t orderly resolved offered still rest has_run =
      record {
        orderly = orderly;
        rest = rest;
        inputs = λ i is. ap (λ o. unwrap_or o (t.value i)) (sym (rest.no_active.inputs i is)) ∙ offered.comes i is;
        drivers = driver_value d t orderly.steady rest;
        driven = λ p target e here i k is.
            driven_from d solvable.lawful t resolved p target e here i k is (solvable.sole p target e here i k is)
            ∙ ap (λ bits. bit (driven (widths d) target bits) i k) (driver_value d t orderly.steady rest p target e here);
        consistent = λ p list body here follows.
            still p list body here (solvable.computing p list body here).plain (rest.no_active.processes p (ap is_some here)) (has_run p list body here) follows;
      }

  pub arrives : (given : Values) (t : State) → IsUnderWay d given t → IsAtRest d t → IsArrived d given t
  arrives given t way rest =
      arrived given way.ran t way.orderly way.resolved way.offered way.still rest (λ p list body here. way.has_run p)

  module _ (f : Fill) (s : State) (n : Values) (settled : IsSettled d f s n) where
    settled_orderly : IsOrderly d s
    settled_orderly =
        record {
          steady = record {
            within = record {
              offered = λ i bits input is. absurd (let none = sym is ∙ settled.rest.no_active.inputs i input in cc);
              activated = rw settled.rest.no_active.updates (All-nil (All (IsWithin (widths d))));
              delayed = rw settled.rest.no_delayed (All-nil (All (IsWithin (widths d))));
            };
            widths = settled.wide;
            up_to_date = λ p target e here still.
                ap (λ o. unwrap_or o (s.driver p)) (settled.rest.no_active.drivers p (ap is_assignment here)) ∙ settled.drivers p target e here;
          };
          late = late_none d s settled.rest.no_active.updates settled.rest.no_delayed;
        }

    idle : IsIdle d n n
    idle = solution_rests d level solvable f n n n settled.solution.numbers settled.solution (λ i k is. refl)

    outside : (p : ℕ) (does : Doing) → doing_at d p ≡ Some does → (j l : ℕ) → ReadsOutside (flow_of (widths d) does) j l → Same n s.value j l
    outside p does here j l reads' = sym (settled.shows j l (read_lasts d p does here j l reads'))

    -- its blocks are consistent
    settled_still : AreStill d (λ p. true) s
    settled_still p list body here plain waits ran follows i k lasts =
        let numbers = settled.solution.numbers in
        let finds = outside p (Comb list body) here in
        elim (cases_Bool (may_write (body_flow (widths d) body) i k)) [
          | inl may ↦
              elim (live_by d level solvable p list body here n n (gate_has d level solvable n n idle body)) [
                | inl closed ↦
                    let gated = solvable.gated p list body here closed.0 closed.1 in
                    closed_stays d level solvable p list body here closed.0 gated s.value settled.wide
                    (ap (λ b. same_bit b closed.0.opens) (sym (finds closed.0.signal 0 gated.outside) ∙ gate_has d level solvable n n idle body closed.0 gated) ∙ closed.2) i k
                | inr live ↦
                    sym (after_same d level solvable p list body here n s.value numbers settled.wide finds live i k
                    ((decided (body_flow (widths d) body) i k).writes.0 may) lasts)
                    ∙ idle.consistent p list body here (takes_path d level solvable p list body here n n numbers numbers.wide (λ j l reads'. refl)) i k lasts
                    ∙ sym (settled.shows i k lasts)
              ]
          | inr cannot ↦ others_stay d level solvable p list body here s.value settled.wide i k cannot
        ]

    -- its nets show their drivers
    settled_driven : AreDriven d s
    settled_driven p target e here i k is sole =
        settled.shows i k (net_lasts d level solvable p target e here i k is)
        ∙ idle.driven p target e here i k is
        ∙ ap (λ bits. bit (driven (widths d) target bits) i k)
        (value_same d level solvable p target e here n s.value settled.solution.numbers.wide settled.wide
        (λ j l reads'. outside p (Assign target e) here j l (assign_reads (widths d) target e j l reads'))
        ∙ sym (settled.drivers p target e here))

    settled_resolved : AreResolved d s
    settled_resolved = resolved_from d solvable.lawful s solvable.sole settled_driven

    -- its inputs are the numbers'
    settled_offered : AreOffered d n s
    settled_offered =
        record {
          wide = λ i is. settled.solution.numbers.wide i;
          comes = λ i is.
              ap (λ o. unwrap_or o (s.value i)) (settled.rest.no_active.inputs i is)
              ∙ ext_get_or X (s.value i) (n i) (settled.wide i ∙ sym (settled.solution.numbers.wide i)) (λ k below. settled.shows i k (input_lasts d i is));
        }

    pub settled_way : IsUnderWay d n s
    settled_way =
        record {
          orderly = settled_orderly;
          resolved = settled_resolved;
          offered = settled_offered;
          ran = λ p. true;
          has_run = λ p. refl;
          still = settled_still;
        }

    -- a round from it
    pub arrive : (round : Round) → IsRound d s round → IsAtRest d (after_round d s round) → IsArrived d (given_with n round.step) (after_round d s round)
    arrive round is rest =
        arrives (given_with n round.step) (after_round d s round)
        (way_run (given_with n round.step) (offer s round.step) round.events is.can
        (way_offer n s round.step (are_wide d round.step is.settings) settled_way)) rest
