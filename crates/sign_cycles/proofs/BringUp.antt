-- Steps from power-up end in a settled state where inputs, registers and latches are known. So they are after every bring-up:
-- inputs are set, registers have the constants of their resets, and latches are open.
use Rattle.std.proofs.Common.{◌≡◌, ◌≢◌, ◌∙◌, ◌⊎◌, ◌≤◌, ◌==◌, ℕ, true, false, List, [], ◌∷◌, length, get_or, Option, None, Some, refl, sym, ap, subst, inl, inr, arith}
use Rattle.std.specs.Prelude.{IsTrue, unwrap_or}
use Rattle.std.specs.List.{All, list_any}
use Rattle.std.proofs.lemmas.Bool.{cases_Bool, cases_eq, cond-false, cond-true, false≢true, ne_eqb, or_cases, true≢false}
use Rattle.std.proofs.lemmas.List.Elements.{All-head, All-tail}
use Rattle.rtl_bits.specs.declared.Bit.{Bit}
use Rattle.rtl_bits.specs.declared.Bit.TheVariants.{X}
use Rattle.rtl_bits.specs.Bit.{is_unknown}
use Rattle.rtl_bits.specs.Bits.{has_unknown, same_bit}
use Rattle.rtl_flat.specs.Process.{Watched, Actions, Edge'}
use Rattle.event_model.specs.Queue.{State, IsAtRest, doing_at, is_input, offer, power_up, run}
use Rattle.rtl_flat.specs.Flats.{Flat, widths}
use Rattle.event_model.specs.Writes.{Values, put}
use Rattle.event_edges.proofs.event_laws_proofs.Lengths.{put_at, put_other}
use Rattle.event_edges.proofs.event_laws_proofs.Unheard.{same_bits}
use Rattle.net_model.specs.declared.fill.Fill.{Fill}
use Rattle.net_model.specs.Block.{block_bit}
use Rattle.net_model.specs.Cycle.{Chain, Guard, Setting, given_after, is_active, level, strongest}
use Rattle.net_model.specs.Gates.{IsLatchBit}
use Rattle.net_model.specs.Numbers.{AreNumbers, bit}
use Rattle.net_model.specs.Solution.{IsRegisterBit}
use Rattle.net_model.proofs.Gates.{from_input}
use Rattle.event_edges.specs.event_runs.Nets.{AreDriven, AreOffered, AreResolved, given_with}
use Rattle.event_edges.specs.event_runs.Writers.{IsOrderly}
use Rattle.event_edges.proofs.event_runs_proofs.Inputs.{offer_is, offered_offer, offered_run, orderly_offer}
use Rattle.event_edges.proofs.event_runs_proofs.Late.{orderly_power_up, orderly_run}
use Rattle.event_edges.proofs.event_runs_proofs.Nets.{driven_from, resolved_power_up, resolved_run}
use Rattle.net_rest.proofs.net_laws_proofs.Known.{known_at}
use Rattle.net_rest.proofs.net_laws_proofs.Laws.{block_known}
use Rattle.net_rest.specs.Rest.{IsHeldBit, numbers_of}
use Rattle.net_rest.proofs.Numbers.{are_numbers}
use Rattle.net_rest.proofs.Rest.{held_as, latch_inside, register_inside}
use Rattle.sign_cycles.specs.PowerUp.{AreRounds, CanAllWake, after_rounds}
use Rattle.sign_cycles.specs.PowerUp as up
use Rattle.sign_cycles.specs.Round.{AreSettings, IsSettled, Round}
use Rattle.sign_cycles.proofs.RoundLaws as round
use Rattle.sign_cycles.proofs.Settled.{are_wide}
use Rattle.event_edges.specs.Reset.{IsReset, IsSet}
use Rattle.event_edges.proofs.Cone.{item_clock}
use Rattle.event_edges.proofs.Laws.{resets_set, set_at_rest}
use Rattle.event_edges.proofs.Ports.{follows, one_bit}
use Rattle.sign_cycles.specs.Agree.{AreReset, AreRuns, IsSettledKnown}
use Rattle.sign_cycles.specs.Known.{AreKnown, KnownSettlesClean}
use Rattle.sign_cycles.specs.BringUp.{HaveResets, IsAtLevel, IsBringUp, SetsInput, given_by, last, sets}
use Rattle.sign_cycles.specs.Formed.{IsCleanClocked}
use Rattle.sign_cycles.specs.Laws.{BringsUpClean}
use Rattle.sign_cycles.proofs.DataSteps.{given_pairs, pairs}
use Rattle.sign_cycles.proofs.Edges.{clock_bit, item_lasts, settled_known}
use Rattle.sign_cycles.proofs.Resets as reset

-- ---- what inputs are set to

module _ (d : Flat) where
  pub all_settings : (all : List Setting) → All (SetsInput d) all → AreSettings d (pairs all)
  all_settings [] set = tt
  all_settings (setting ∷ others) set =
      let one = All-head (SetsInput d) setting others set in
      ((one.can_be.wide, one.can_be.known), all_settings others (All-tail (SetsInput d) setting others set))

  -- an input that is known stays so, and one that is set becomes so
  step_known : (given : Values) (all : List Setting) → All (SetsInput d) all → (i : ℕ) → (sets i all ≡ true) ⊎ (has_unknown (given i) ≡ false) → has_unknown (given_after given all i) ≡ false
  step_known given [] set i (inl never) = absurd (false≢true never)
  step_known given [] set i (inr known) = known
  step_known given (setting ∷ others) set i which =
      let one = All-head (SetsInput d) setting others set in
      step_known (put given setting.input setting.number) others (All-tail (SetsInput d) setting others set) i
      (elim (cases_eq i setting.input) [
        | inl same ↦ inr (ap has_unknown (put_at given setting.input i setting.number same) ∙ one.can_be.known)
        | inr other ↦ by_other other which
      ])
    where
      by_other : (i ≡ setting.input → ⊥) → (sets i (setting ∷ others) ≡ true) ⊎ (has_unknown (given i) ≡ false) → (sets i others ≡ true) ⊎ (has_unknown (put given setting.input setting.number i) ≡ false)
      by_other other (inl later) =
          elim (or_cases (setting.input == i) (sets i others) later) [
            | inl here ↦ absurd (false≢true (sym (ne_eqb setting.input i (λ same. other (sym same))) ∙ here))
            | inr there ↦ inl there
          ]
      by_other other (inr known) =
          inr (ap has_unknown (put_other given setting.input i setting.number other) ∙ known)

  steps_known : (given : Values) (steps : List (List Setting)) → All (All (SetsInput d)) steps → (i : ℕ) → (list_any (sets i) steps ≡ true) ⊎ (has_unknown (given i) ≡ false) → has_unknown (given_by given steps i) ≡ false
  steps_known given [] set i (inl never) = absurd (false≢true never)
  steps_known given [] set i (inr known) = known
  steps_known given (step ∷ steps) set i which =
      steps_known (given_after given step) steps (All-tail (All (SetsInput d)) step steps set) i (by_step which)
    where
      first : All (SetsInput d) step
      first = All-head (All (SetsInput d)) step steps set

      by_step : (list_any (sets i) (step ∷ steps) ≡ true) ⊎ (has_unknown (given i) ≡ false) → (list_any (sets i) steps ≡ true) ⊎ (has_unknown (given_after given step i) ≡ false)
      by_step (inl some) =
          elim (or_cases (sets i step) (list_any (sets i) steps) some) [
            | inl here ↦ inr (step_known given step first i (inl here))
            | inr there ↦ inl there
          ]
      by_step (inr known) = inr (step_known given step first i (inr known))

-- ---- the rounds of a bring-up

-- rounds that follow some steps, and end where they do
record AreTheRounds (d : Flat) (s : State) (steps : List (List Setting)) (t : State) : Type 0 where
  pub rounds : List Round
  pub can : AreRounds d s rounds
  pub ends : after_rounds d s rounds ≡ t
  pub given : (n : Values) → up.given_by n rounds ≡ given_by n steps

module _ (d : Flat) where
  the_rounds : (s : State) (steps : List (List Setting)) → All (All (SetsInput d)) steps → (states : List State) → AreRuns d s steps states → AreTheRounds d s steps (last s states)
  the_rounds s [] set [] runs = record { rounds = []; can = tt; ends = refl; given = λ n. refl }
  the_rounds s [] set (t ∷ states) runs = absurd runs
  the_rounds s (step ∷ steps) set [] runs = absurd runs
  the_rounds s (step ∷ steps) set (t ∷ states) runs =
      let first : Round = record { step = pairs step; events = runs.0.reaches.events } in
      let rest = the_rounds t steps (All-tail (All (SetsInput d)) step steps set) states runs.1 in
      let leads = runs.0.reaches.leads in
      let settings = all_settings d step (All-head (All (SetsInput d)) step steps set) in
      record {
        rounds = first ∷ rest.rounds;
        can = (record { settings = settings; can = runs.0.reaches.can }, subst (λ (u : State). AreRounds d u rest.rounds) (sym leads) rest.can);
        ends = ap (λ (u : State). after_rounds d u rest.rounds) leads ∙ rest.ends;
        given = λ n.
            ap (λ (v : Values). up.given_by v rest.rounds) (given_pairs n step) ∙ rest.given (given_after n step);
      }

  -- they come to rest
  rests : (s : State) → IsAtRest d s → (steps : List (List Setting)) (states : List State) → AreRuns d s steps states → IsAtRest d (last s states)
  rests s rest [] [] runs = rest
  rests s rest [] (t ∷ states) runs = absurd runs
  rests s rest (step ∷ steps) [] runs = absurd runs
  rests s rest (step ∷ steps) (t ∷ states) runs = rests t runs.0.rest steps states runs.1

  some_rest : (s : State) (steps : List (List Setting)) → steps ≢ [] → (states : List State) → AreRuns d s steps states → IsAtRest d (last s states)
  some_rest s [] some states runs = absurd (some refl)
  some_rest s (step ∷ steps) some [] runs = absurd runs
  some_rest s (step ∷ steps) some (t ∷ states) runs = rests t runs.0.rest steps states runs.1

-- ---- what they keep

-- what all steps keep, whatever is set
record IsRising (d : Flat) (given : Values) (s : State) : Type 0 where
  pub orderly : IsOrderly d s
  pub resolved : AreResolved d s
  pub offered : AreOffered d given s
  pub set :
      (p r : ℕ) (active : Bit) (i k : ℕ) (constant : Bit) → IsReset d p r active i k constant → IsSet d p r active i k constant s

module _ (d : Flat) (chains : ℕ → Chain) (level_of : ℕ → ℕ) (clean : IsCleanClocked d chains level_of) where
  begins : IsRising d (power_up d).value (power_up d)
  begins =
      record {
        orderly = orderly_power_up d;
        resolved = resolved_power_up d clean.solvable.lawful;
        offered = record { wide = λ i is. (orderly_power_up d).steady.widths i; comes = λ i is. refl };
        set = λ p r active i k constant is. (resets_set d clean.solvable.lawful p r active i k constant is).power_up;
      }

  rises : (given : Values) (s : State) (steps : List (List Setting)) → All (All (SetsInput d)) steps → (states : List State) → AreRuns d s steps states → IsRising d given s → IsRising d (given_by given steps) (last s states)
  rises given s [] set [] runs rising = rising
  rises given s [] set (t ∷ states) runs rising = absurd runs
  rises given s (step ∷ steps) set [] runs rising = absurd runs
  rises given s (step ∷ steps) set (t ∷ states) runs rising =
      let lawful = clean.solvable.lawful in
      let events = runs.0.reaches.events in
      let can = runs.0.reaches.can in
      let wide = are_wide d (pairs step) (all_settings d step (All-head (All (SetsInput d)) step steps set)) in
      let begun = offer s (pairs step) in
      let orderly = orderly_offer d s (pairs step) wide rising.orderly in
      let resolved = subst (AreResolved d) (sym (offer_is s (pairs step))) rising.resolved in
      let offered = offered_offer d given s (pairs step) wide rising.offered in
      let after : IsRising d (given_with given (pairs step)) (run d begun events) =
      record {
        orderly = orderly_run d lawful begun events can orderly;
        resolved = resolved_run d lawful begun events can orderly resolved;
        offered = offered_run d lawful (given_with given (pairs step)) begun events can orderly offered;
        set = λ p r active i k constant is.
            let stays = resets_set d lawful p r active i k constant is in
            stays.run begun events can orderly (stays.offer s (pairs step) (rising.set p r active i k constant is));
      } in
      rises (given_after given step) t steps (All-tail (All (SetsInput d)) step steps set) states runs.1
      (subst (λ (v : Values). IsRising d v t) (given_pairs given step) (subst (IsRising d (given_with given (pairs step))) runs.0.reaches.leads after))

  -- ---- where they come to rest

  -- inputs have what they were given
  input_is :
      (given : Values) (t : State) → IsRising d given t → IsAtRest d t →
      (i : ℕ) → IsTrue (is_input d i) → t.value i ≡ given i
  input_is given t rising rest i input =
      ap (λ (o : Option (List Bit)). unwrap_or o (t.value i)) (sym (rest.no_active.inputs i input))
      ∙ rising.offered.comes i input

  -- the strongest reset of a process that has one at most is its only one, and active
  pub only_one :
      (n : Values) (resets : List Guard) → length resets ≤ 1 → (guard : Guard) → strongest n resets ≡ Some guard →
      (resets ≡ guard ∷ []) × (is_active n guard.item ≡ true)
  only_one n [] one guard found = absurd (cc)
  only_one n (first ∷ other ∷ others) one guard found = absurd (omega (arith, one))
  only_one n (first ∷ []) one guard found =
      elim (cases_Bool (is_active n first.item)) [
        | inl on ↦
            let chosen : Some first ≡ Some guard = sym (cond-true (is_active n first.item) (Some first) None on) ∙ found in
            let same : first ≡ guard = cc in
            (ap (λ (one : Guard). one ∷ []) same, ap (λ (one : Guard). is_active n one.item) (sym same) ∙ on)
        | inr off ↦
            let none : ◌≡◌ {A = Option Guard} None (Some guard) = sym (cond-false (is_active n first.item) (Some first) None off) ∙ found in
            absurd (cc)
      ]

  -- registers whose resets are active have their constants
  resets_hold :
      (f : Fill) (given : Values) (t : State) → IsRising d given t →
      (n : Values) → IsSettled d f t n → AreReset d chains f n
  resets_hold f given t rising n settled p events body does guard found i k may lasts =
      let formed = clean.formed p events body does in
      let (only, active) = only_one n (chains p).resets formed.one_reset guard found in
      let item = reset.item d chains level_of clean f p events body does guard only in
      let at_level : bit t.value guard.item.signal 0 ≡ level guard.item.edge =
      settled.shows guard.item.signal 0 (item_lasts d chains level_of clean p events body does guard.item item)
      ∙ same_bits (bit n guard.item.signal 0) (level guard.item.edge) active in
      let constant = block_bit (widths d) f n guard.branch i k in
      let is = reset.is_reset d chains level_of clean f p events body does guard only n settled.solution.numbers i k may lasts in
      sym (settled.shows i k lasts)
      ∙ set_at_rest d clean.solvable.lawful p guard.item.signal (level guard.item.edge) i k constant is t settled.rest
      (rising.set p guard.item.signal (level guard.item.edge) i k constant is) at_level

  -- where inputs, registers and closed latches are known the rounds are a bring-up
  up_settled :
      CanAllWake d → (f : Fill) (steps : List (List Setting)) → steps ≢ [] → (set : All (All (SetsInput d)) steps) →
      (states : List State) → AreRuns d (power_up d) steps states →
      ((i : ℕ) → IsTrue (is_input d i) → has_unknown ((last (power_up d) states).value i) ≡ false) →
      ((i k : ℕ) → IsRegisterBit d i k → is_unknown (bit (last (power_up d) states).value i k) ≡ false) →
      ((i k : ℕ) → IsHeldBit d (last (power_up d) states).value i k → is_unknown (bit (last (power_up d) states).value i k) ≡ false) →
      IsSettled d f (last (power_up d) states) (numbers_of d f (last (power_up d) states).value)
  up_settled wakes f steps some set states runs inputs registers latches =
      subst (λ (u : State). IsSettled d f u (numbers_of d f u.value)) all.ends
      (round.brings_up d level_of clean.solvable wakes f all.rounds
      (record {
        can = all.can;
        rest = subst (IsAtRest d) (sym all.ends) rest;
        inputs = λ i input. ap has_unknown (given_is i input) ∙ inputs i input;
        registers = λ i k register.
            ap (λ (u : State). is_unknown (bit u.value i k)) all.ends ∙ registers i k register;
        latches = λ i k held.
            ap (λ (u : State). is_unknown (bit u.value i k)) all.ends
            ∙ latches i k (held_as d level_of clean.solvable (up.given_by (power_up d).value all.rounds) t.value given_is i k held);
      }))
    where
      t : State
      t = last (power_up d) states

      given : Values
      given = given_by (power_up d).value steps

      rising : IsRising d given t
      rising = rises (power_up d).value (power_up d) steps set states runs begins

      rest : IsAtRest d t
      rest = some_rest d (power_up d) steps some states runs

      all : AreTheRounds d (power_up d) steps t
      all = the_rounds d (power_up d) steps set states runs

      given_is : (i : ℕ) → IsTrue (is_input d i) → up.given_by (power_up d).value all.rounds i ≡ t.value i
      given_is i input =
          ap (λ (v : Values). v i) (all.given (power_up d).value) ∙ sym (input_is given t rising rest i input)

  -- so a state whose inputs, registers and latches are known is settled
  known_settled :
      CanAllWake d → (f : Fill) (steps : List (List Setting)) → steps ≢ [] → All (All (SetsInput d)) steps →
      (states : List State) → AreRuns d (power_up d) steps states → AreKnown d (last (power_up d) states).value →
      IsSettledKnown d chains f (last (power_up d) states) (numbers_of d f (last (power_up d) states).value)
  known_settled wakes f steps some set states runs known =
      let t = last (power_up d) states in
      let rising = rises (power_up d).value (power_up d) steps set states runs begins in
      let settled = up_settled wakes f steps some set states runs known.inputs known.registers (λ i k held. known.latches i k held.latch) in
      settled_known d chains f t (numbers_of d f t.value) settled
      (resets_hold f (given_by (power_up d).value steps) t rising (numbers_of d f t.value) settled)

  -- ---- after a bring-up

  -- the one reset of a process that has some
  one_guard : (resets : List Guard) → length resets ≤ 1 → resets ≢ [] → (guard : Guard) × (resets ≡ guard ∷ [])
  one_guard [] one some = absurd (some refl)
  one_guard (guard ∷ []) one some = (guard, refl)
  one_guard (guard ∷ other ∷ others) one some = absurd (omega (arith, one))

  module _ (have : HaveResets d chains) (f : Fill) (given : Values) (t : State) (rising : IsRising d given t) (rest : IsAtRest d t) (levels : (p : ℕ) (events : List Watched) (body : Actions) → doing_at d p ≡ Some (Edge' events body) → All (IsAtLevel d given) (chains p).resets) where
    drivers : AreDriven d t
    drivers p target e here i k is sole =
        driven_from d clean.solvable.lawful t rising.resolved p target e here i k is sole

    module _ (i k : ℕ) (register : IsRegisterBit d i k) where
      abbrev p : ℕ
      p = register.process

      guarded : (guard : Guard) × ((chains p).resets ≡ guard ∷ [])
      guarded =
          one_guard (chains p).resets (clean.formed p register.events register.body register.does).one_reset (have i k register)

      abbrev guard : Guard
      guard = guarded.0

      -- its reset is active
      at_level : bit t.value guard.item.signal 0 ≡ level guard.item.edge
      at_level =
          let item = reset.item d chains level_of clean f p register.events register.body register.does guard guarded.1 in
          let top = clean.synchronous.clocks p register.events register.body guard.item item in
          let top_clock = item_clock d clean.synchronous p register.events register.body guard.item item top.top top.input top.reached in
          let there = All-head (IsAtLevel d given) guard [] (subst (All (IsAtLevel d given)) guarded.1 (levels p register.events register.body register.does)) in
          let value_is : t.value top.top ≡ given top.top = input_is given t rising rest top.top top.input in
          let start : t.value top.top ≡ level guard.item.edge ∷ [] =
          one_bit (t.value top.top) (level guard.item.edge) (rising.orderly.steady.widths top.top ∙ clock_bit d clean.synchronous top.top top_clock)
          (ap (λ (bits : List Bit). get_or bits 0 X) value_is ∙ there top.top top.input top.reached) in
          ap (λ (bits : List Bit). get_or bits 0 X)
          (follows d clean.synchronous t rising.orderly drivers rest.no_active top.top top_clock (level guard.item.edge) start guard.item.signal top.reached)

      -- so it has its constant
      has_constant : (n : Values) → AreNumbers d n → bit t.value i k ≡ block_bit (widths d) f n guard.branch i k
      has_constant n are =
          let constant = block_bit (widths d) f n guard.branch i k in
          let is = reset.is_reset d chains level_of clean f p register.events register.body register.does guard guarded.1 n are i k register.may register.lasting in
          set_at_rest d clean.solvable.lawful p guard.item.signal (level guard.item.edge) i k constant is t rest
          (rising.set p guard.item.signal (level guard.item.edge) i k constant is) at_level

      register_known : is_unknown (bit t.value i k) ≡ false
      register_known =
          let n = numbers_of d f t.value in
          ap is_unknown (has_constant n (are_numbers d f t.value))
          ∙ block_known d f n guard.branch i k (are_numbers d f t.value)
          (reset.branch d chains level_of clean f p register.events register.body register.does guard guarded.1).lawful (register_inside d level_of clean.solvable i k register)

  -- no latch is closed
  none_held :
      (steps : List (List Setting)) → IsBringUp d chains steps → (t : State) → IsRising d (given_by (power_up d).value steps) t → IsAtRest d t →
      (i k : ℕ) → IsHeldBit d t.value i k → ⊥
  none_held steps is t rising rest i k held =
      let gate = held.latch.gate in
      let admitted = held.latch.admitted in
      let input = from_input d gate.input gate.signal admitted.latch.comes in
      let value_is = input_is (given_by (power_up d).value steps) t rising rest gate.input input in
      true≢false (sym (ap (λ (bits : List Bit). same_bit (get_or bits 0 X) gate.opens) value_is
      ∙ ap (λ (b : Bit). same_bit b gate.opens) (is.gates held.latch.process gate admitted)
      ∙ reset.same_self gate.opens) ∙ held.closed)

  bring_up_known :
      CanAllWake d → HaveResets d chains → (f : Fill) (steps : List (List Setting)) → IsBringUp d chains steps →
      (states : List State) → AreRuns d (power_up d) steps states → AreKnown d (last (power_up d) states).value
  bring_up_known wakes have f steps is states runs =
      record { inputs = inputs_known; registers = registers_known; latches = latches_known }
    where
      given : Values
      given = given_by (power_up d).value steps

      t : State
      t = last (power_up d) states

      rising : IsRising d given t
      rising = rises (power_up d).value (power_up d) steps is.settings states runs begins

      rest : IsAtRest d t
      rest = some_rest d (power_up d) steps is.some_step states runs

      inputs_known : (i : ℕ) → IsTrue (is_input d i) → has_unknown (t.value i) ≡ false
      inputs_known i input =
          ap has_unknown (input_is given t rising rest i input)
          ∙ steps_known d (power_up d).value steps is.settings i (inl (is.all_set i input))

      registers_known : (i k : ℕ) → IsRegisterBit d i k → is_unknown (bit t.value i k) ≡ false
      registers_known i k register = register_known have f given t rising rest is.resets i k register

      -- latches are open, so the state is settled, and they have known numbers
      latches_known : (i k : ℕ) → IsLatchBit d i k → is_unknown (bit t.value i k) ≡ false
      latches_known i k latch =
          let n = numbers_of d f t.value in
          let settled = up_settled wakes f steps is.some_step is.settings states runs inputs_known registers_known (λ j l held. absurd (none_held steps is t rising rest j l held)) in
          let size = (are_numbers d f t.value).wide i in
          let inside = latch_inside d level_of clean.solvable i k latch in
          ap is_unknown (settled.shows i k latch.lasting)
          ∙ known_at (n i) k ((are_numbers d f t.value).known i) (omega (arith, size, inside))

pub known_settles : (d : Flat) (chains : ℕ → Chain) (level_of : ℕ → ℕ) → KnownSettlesClean d chains level_of
known_settles d chains level_of clean wakes f =
    record {
      settles = λ steps some set states runs known. (
        numbers_of d f (last (power_up d) states).value,
        known_settled d chains level_of clean wakes f steps some set states runs known,
      );
    }

pub brings_up : (d : Flat) (chains : ℕ → Chain) (level_of : ℕ → ℕ) → BringsUpClean d chains level_of
brings_up d chains level_of clean wakes have f =
    record {
      settles = λ steps is states runs.
          (known_settles d chains level_of clean wakes f).settles steps is.some_step is.settings states runs
          (bring_up_known d chains level_of clean wakes have f steps is states runs);
    }
