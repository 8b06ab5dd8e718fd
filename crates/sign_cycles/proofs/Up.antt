-- Rounds from power-up bring a design up.
use Rattle.std.proofs.Common.{◌≡◌, ◌∙◌, ◌<◌, ℕ, zero, suc, Bool, true, false, List, [], ◌∷◌, Option, Some, get_or, refl, sym, ap, subst, inl, inr, arith}
use Rattle.std.specs.Prelude.{IsTrue, unwrap_or}
use Rattle.std.specs.List.{slice_get}
use Rattle.std.specs.Option.{is_some}
use Rattle.std.proofs.lemmas.Bool.{cases_Bool, false≢true, true≢false}
use Rattle.std.proofs.lemmas.List.{get_or-replicate}
use Rattle.rtl_bits.specs.declared.Bit.TheVariants.{X}
use Rattle.rtl_bits.specs.Bit.{is_unknown}
use Rattle.rtl_bits.specs.Bits.{has_unknown}
use Rattle.rtl_flat.specs.declared.signal.Kind.{Kind}
use Rattle.rtl_flat.specs.declared.signal.Kind.TheVariants.{TopInput, Net, Var}
use Rattle.rtl_flat.specs.declared.signal.Signal.{Signal}
use Rattle.rtl_flat.specs.Expression.{Tree}
use Rattle.rtl_flat.specs.Flows.{flow_of, may_target}
use Rattle.rtl_flat.specs.Levels.{HasNoEdge}
use Rattle.rtl_flat.specs.Paths.{MayWrite, ReadsOutside}
use Rattle.rtl_flat.specs.PathSets.{listed}
use Rattle.rtl_flat.specs.Process.{Actions, Assign, Comb, Doing, Edge', Piece, Watched}
use Rattle.rtl_flat.specs.Signs.{width_in}
use Rattle.rtl_flat.specs.Value.{value}
use Rattle.event_model.specs.Queue.{State, IsAtRest, doing_at, first_bit, first_bits, is_input, offer, power_up}
use Rattle.rtl_flat.specs.Flats.{Flat, widths}
use Rattle.event_model.specs.Writes.{Values, driven}
use Rattle.net_model.specs.declared.fill.Fill.{Fill}
use Rattle.net_model.specs.Gates.{Gate}
use Rattle.net_model.specs.Numbers.{bit}
use Rattle.net_model.specs.Solution.{IsLasting, IsRegisterBit}
use Rattle.net_rest.specs.event_runs.Nets.{AreOffered, AreResolved, given_with}
use Rattle.net_rest.specs.event_runs.Plain.{AreStill, AreUnheard, ran_after}
use Rattle.net_rest.specs.event_runs.Writers.{IsOrderly}
use Rattle.net_rest.proofs.event_runs_proofs.Inputs.{offer_is, offered_offer, offered_run, orderly_offer}
use Rattle.net_rest.proofs.event_runs_proofs.Late.{orderly_power_up, orderly_run}
use Rattle.net_rest.proofs.event_runs_proofs.Nets.{driven_from, driver_value, resolved_power_up, resolved_run}
use Rattle.net_rest.proofs.event_runs_proofs.Still.{still_run, unheard_run}
use Rattle.net_rest.proofs.net_laws_proofs.Known.{KnownBit, known_at}
use Rattle.net_rest.specs.Rest.{AreGiven, IsFromOutside, IsGated, IsHeldBit, IsSolvable, numbers_of}
use Rattle.net_rest.proofs.Latches.{carried}
use Rattle.net_rest.proofs.Levels.{by_level_listed, listed_lasts}
use Rattle.net_rest.proofs.Rest.{assign_known, computed_known, held_as, held_bit, its_target, live_by}
use Rattle.sign_cycles.specs.PowerUp.{AreRounds, CanAllWake, IsBroughtUp, after_rounds, given_by}
use Rattle.sign_cycles.specs.Round.{IsRound, IsSettled, Round, after_round}
use Rattle.sign_cycles.proofs.Followed.{settled}
use Rattle.sign_cycles.proofs.Settled.{are_wide, arrived, input_lasts}

-- ---- the first values

first_unknown : (kind : Kind) → is_unknown (first_bit kind) ≡ true
first_unknown TopInput = refl
first_unknown Net = refl
first_unknown Var = refl

unknown_in : (signals : List Signal) (i k : ℕ) → k < width_in signals i → is_unknown (get_or (first_bits (slice_get signals i)) k X) ≡ true
unknown_in [] i k inside = absurd (omega (arith, inside))
unknown_in (s ∷ signals) zero k inside =
    ap is_unknown (get_or-replicate s.width k (first_bit s.kind) X inside) ∙ first_unknown s.kind
unknown_in (s ∷ signals) (suc i) k inside = unknown_in signals i k inside

-- ---- what all rounds from power-up keep

abbrev first : Flat → Values
first d = (power_up d).value

record IsGoing (d : Flat) (ran : ℕ → Bool) (given : Values) (s : State) : Type 0 where
  pub orderly : IsOrderly d s
  pub still : AreStill d ran s
  pub unheard : AreUnheard d ran (first d) s
  pub resolved : AreResolved d s
  pub offered : AreOffered d given s

-- which processes have run after rounds
abbrev ran_rounds : (ℕ → Bool) → List Round → ℕ → Bool
ran_rounds ran [] = ran
ran_rounds ran (round ∷ rounds) = ran_rounds (ran_after ran round.events) rounds

module _ (d : Flat) (level : ℕ → ℕ) (solvable : IsSolvable d level) where
  going_up : IsGoing d (λ p. false) (first d) (power_up d)
  going_up =
      record {
        orderly = orderly_power_up d;
        still = λ p list body here plain waits ran. absurd (false≢true ran);
        unheard = λ p list body here waits ran i k is. refl;
        resolved = resolved_power_up d solvable.lawful;
        offered = record { wide = λ i is. (orderly_power_up d).steady.widths i; comes = λ i is. refl };
      }

  going_round :
      (ran : ℕ → Bool) (given : Values) (s : State) (round : Round) → IsRound d s round → IsGoing d ran given s →
      IsGoing d (ran_after ran round.events) (given_with given round.step) (after_round d s round)
  going_round ran given s round is going =
      let wide = are_wide d round.step is.settings in
      let begun = offer s round.step in
      let orderly = orderly_offer d s round.step wide going.orderly in
      let still = subst (AreStill d ran) (sym (offer_is s round.step)) going.still in
      let unheard = subst (AreUnheard d ran (first d)) (sym (offer_is s round.step)) going.unheard in
      let resolved = subst (AreResolved d) (sym (offer_is s round.step)) going.resolved in
      let offered = offered_offer d given s round.step wide going.offered in
      record {
        orderly = orderly_run d solvable.lawful begun round.events is.can orderly;
        still = still_run d solvable.lawful ran begun round.events is.can orderly still;
        unheard = unheard_run d solvable.lawful ran (first d) begun round.events is.can orderly unheard;
        resolved = resolved_run d solvable.lawful begun round.events is.can orderly resolved;
        offered = offered_run d solvable.lawful (given_with given round.step) begun round.events is.can orderly offered;
      }

  going_rounds :
      (ran : ℕ → Bool) (given : Values) (s : State) (rounds : List Round) → AreRounds d s rounds → IsGoing d ran given s →
      IsGoing d (ran_rounds ran rounds) (given_by given rounds) (after_rounds d s rounds)
  going_rounds ran given s [] can going = going
  going_rounds ran given s (round ∷ rounds) can going =
      going_rounds (ran_after ran round.events) (given_with given round.step) (after_round d s round) rounds can.1 (going_round ran given s round can.0 going)

  -- ---- where they come to rest

  module _ (wakes : CanAllWake d) (ran : ℕ → Bool) (given : Values) (t : State) (going : IsGoing d ran given t) (rest : IsAtRest d t) (inputs : (i : ℕ) → IsTrue (is_input d i) → has_unknown (given i) ≡ false) (registers : (i k : ℕ) → IsRegisterBit d i k → is_unknown (bit t.value i k) ≡ false) (latches : (i k : ℕ) → IsHeldBit d given i k → is_unknown (bit t.value i k) ≡ false) where
    input_is : (i : ℕ) → IsTrue (is_input d i) → t.value i ≡ given i
    input_is i is = ap (λ o. unwrap_or o (t.value i)) (sym (rest.no_active.inputs i is)) ∙ going.offered.comes i is

    input_known : (i k : ℕ) → IsTrue (is_input d i) → k < widths d i → KnownBit (bit t.value i k)
    input_known i k is inside =
        let size = going.orderly.steady.widths i in
        known_at (t.value i) k (ap has_unknown (input_is i is) ∙ inputs i is) (omega (arith, size, inside))

    net_has :
        (p : ℕ) (target : List Piece) (e : Tree) → doing_at d p ≡ Some (Assign target e) → (i k : ℕ) → may_target (widths d) target i k ≡ true →
        bit t.value i k ≡ bit (driven (widths d) target (value t.value e)) i k
    net_has p target e here i k is =
        driven_from d solvable.lawful t going.resolved p target e here i k is (solvable.sole p target e here i k is)
        ∙ ap (λ bits. bit (driven (widths d) target bits) i k) (driver_value d t going.orderly.steady rest p target e here)

    -- gates have the bits of their inputs
    gate_is : (body : Actions) (gate : Gate) → IsGated d body gate → bit t.value gate.signal 0 ≡ bit given gate.input 0
    gate_is body gate gated =
        carried d t.value going.orderly.steady.widths net_has gate.input gate.signal gated.behind
        ∙ ap (λ bits. get_or bits 0 X) (input_is gate.input gated.input)

    -- a block that lists a known bit has run
    has_run :
        (p : ℕ) (list : Option (List Watched)) (body : Actions) → doing_at d p ≡ Some (Comb list body) → (i k : ℕ) → k < widths d i →
        listed (widths d) (Comb list body) i k ≡ true → KnownBit (bit t.value i k) → ran p ≡ true
    has_run p list body here i k inside lists known =
        elim (cases_Bool (ran p)) [
          | inl yet ↦ yet
          | inr never ↦
              let same = going.unheard p list body here (rest.no_active.processes p (ap is_some here)) never i k lists in
              absurd (true≢false (sym (unknown_in d.signals i k inside) ∙ ap is_unknown (sym same) ∙ known))
        ]

    known_step :
        (p : ℕ) (does : Doing) → doing_at d p ≡ Some does → HasNoEdge does → ((j l : ℕ) → ReadsOutside (flow_of (widths d) does) j l → KnownBit (bit t.value j l)) →
        ((j l : ℕ) → l < widths d j → listed (widths d) does j l ≡ true → IsFromOutside d p j l → KnownBit (bit t.value j l)) →
        (i k : ℕ) → MayWrite (flow_of (widths d) does) i k → IsLasting d i → KnownBit (bit t.value i k)
    known_step p (Edge' events body) here node before lists i k may lasts = absurd node
    known_step p (Assign target e) here node before lists i k may lasts =
        let is = its_target d level solvable p target e here i k may in
        assign_known d level solvable t.value going.orderly.steady.widths p target e here before i k is
        (net_has p target e here i k is)
    known_step p (Comb list body) here node before lists i k may lasts =
        let wake = wakes p list body here in
        let yet = has_run p list body here wake.signal wake.place wake.inside wake.listed (lists wake.signal wake.place wake.inside wake.listed wake.source) in
        elim (live_by d level solvable p list body here given t.value (gate_is body)) [
          | inl closed ↦ latches i k (held_bit d level solvable p list body here given closed i k may lasts)
          | inr live ↦
              computed_known d level solvable t.value going.orderly.steady.widths p list body here before
              (going.still p list body here (solvable.computing p list body here).plain (rest.no_active.processes p (ap is_some here)) yet) live i k may lasts
        ]

    all_known : (i k : ℕ) → k < widths d i → IsLasting d i → KnownBit (bit t.value i k)
    all_known = by_level_listed d level solvable (λ i k. KnownBit (bit t.value i k)) input_known registers known_step

    wake_lasts : (p : ℕ) (list : Option (List Watched)) (body : Actions) → doing_at d p ≡ Some (Comb list body) → (i k : ℕ) → listed (widths d) (Comb list body) i k ≡ true → IsFromOutside d p i k → IsLasting d i
    wake_lasts p list body here i k lists (inl input) = input_lasts d i input
    wake_lasts p list body here i k lists (inr others) = listed_lasts d p (Comb list body) here i k lists others

    all_ran : (p : ℕ) (list : Option (List Watched)) (body : Actions) → doing_at d p ≡ Some (Comb list body) → ran p ≡ true
    all_ran p list body here =
        let wake = wakes p list body here in
        has_run p list body here wake.signal wake.place wake.inside wake.listed
        (all_known wake.signal wake.place wake.inside (wake_lasts p list body here wake.signal wake.place wake.listed wake.source))

    are_given : AreGiven d t.value
    are_given =
        record {
          inputs = λ i is. ap has_unknown (input_is i is) ∙ inputs i is;
          registers = registers;
          latches = λ i k is. latches i k (held_as d level solvable t.value given input_is i k is);
        }

    up_settled : (f : Fill) → IsSettled d f t (numbers_of d f t.value)
    up_settled f =
        let there = arrived d level solvable given ran t going.orderly going.resolved going.offered going.still rest all_ran in
        settled d level solvable f given t.value t there are_given (λ i is. sym (input_is i is)) (λ i k is. refl) (λ i k is. refl)

  pub brings_up :
      CanAllWake d → (f : Fill) (rounds : List Round) → IsBroughtUp d rounds →
      IsSettled d f (after_rounds d (power_up d) rounds) (numbers_of d f (after_rounds d (power_up d) rounds).value)
  brings_up wakes f rounds is =
      up_settled wakes (ran_rounds (λ p. false) rounds) (given_by (first d) rounds) (after_rounds d (power_up d) rounds)
      (going_rounds (λ p. false) (first d) (power_up d) rounds is.can going_up) is.rest is.inputs is.registers is.latches f
