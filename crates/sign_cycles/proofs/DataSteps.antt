-- Steps of data: the state to which one comes to rest shows numbers that follow, and no register and no reset changes.
use Rattle.std.proofs.Common.{◌≡◌, ◌∙◌, ◌<◌, ℕ, false, List, [], ◌∷◌, map, get_or, refl, sym, ap, subst, arith}
use Rattle.std.specs.Prelude.{IsTrue}
use Rattle.std.specs.List.{All}
use Rattle.std.proofs.lemmas.List.Elements.{All-cons, All-head, All-nil, All-tail}
use Rattle.rtl_bits.specs.declared.Bit.{Bit}
use Rattle.rtl_bits.specs.declared.Bit.TheVariants.{X}
use Rattle.rtl_bits.specs.Bit.{is_unknown}
use Rattle.rtl_flat.specs.Paths.{MayWrite}
use Rattle.rtl_flat.specs.Process.{Edge'}
use Rattle.event_model.specs.Queue.{State, IsAtRest, is_body, is_input, offer, run}
use Rattle.rtl_flat.specs.Flats.{Flat, widths}
use Rattle.event_model.specs.Traces.{Same}
use Rattle.event_model.specs.Writes.{Values, put}
use Rattle.event_edges.proofs.event_laws_proofs.Lengths.{put_other}
use Rattle.net_model.specs.declared.fill.Fill.{Fill}
use Rattle.net_model.specs.Control.{InClockCone, IsUnclocked}
use Rattle.net_model.specs.Cycle.{Chain, Setting, given_after}
use Rattle.net_model.specs.Lawful.{IsSetting, SetsData}
use Rattle.net_model.specs.Gates.{IsLatchBit}
use Rattle.net_model.proofs.Gates.{data_unclocked}
use Rattle.net_model.specs.Numbers.{bit}
use Rattle.net_model.specs.Solution.{IsRegisterBit}
use Rattle.event_edges.specs.event_runs.Nets.{given_with}
use Rattle.event_edges.specs.event_runs.Writers.{IsOrderly}
use Rattle.event_edges.proofs.event_runs_proofs.Inputs.{offer_is, orderly_offer}
use Rattle.event_edges.proofs.event_runs_proofs.Signals.{body_variable, variable_input}
use Rattle.event_edges.proofs.event_runs_proofs.Writers.{to_process}
use Rattle.net_rest.specs.Rest.{AreGiven, IsHeldBit, IsSolvable, numbers_of}
use Rattle.net_rest.proofs.net_laws_proofs.Known.{known_at}
use Rattle.net_rest.proofs.Numbers.{past_ends}
use Rattle.net_rest.proofs.Rest.{latch_inside, register_inside}
use Rattle.sign_cycles.specs.Round.{AreSettings, IsArrived, IsFollowed, IsSettled}
use Rattle.sign_cycles.proofs.Followed as followed
use Rattle.sign_cycles.proofs.Settled.{arrive}
use Rattle.event_edges.specs.Quiet.{SetData}
use Rattle.event_edges.specs.Synchronous.{IsSynchronous}
use Rattle.event_edges.proofs.Moves.{set_wide}
use Rattle.event_edges.proofs.Laws.{at_data, data_quiet, quiet_run}
use Rattle.sign_cycles.specs.Agree.{IsNext, IsSettledKnown}
use Rattle.sign_cycles.specs.Laws.{IsDataFollowed, SettlesBoth}

abbrev pub pairs : List Setting → List (ℕ × List Bit)
pairs all = map (λ setting. (setting.input, setting.number)) all

-- ---- settings of data, and of any inputs but clocks and resets

abbrev pub SetsUnclocked : Flat → Setting → Type 0
SetsUnclocked d setting = IsUnclocked d setting.input × IsSetting d setting

pub given_pairs : (n : Values) (all : List Setting) → given_with n (pairs all) ≡ given_after n all
given_pairs n [] = refl
given_pairs n (setting ∷ others) = given_pairs (put n setting.input setting.number) others

module _ (d : Flat) where
  pub data_are_unclocked : (all : List Setting) → All (SetsData d) all → All (SetsUnclocked d) all
  data_are_unclocked [] set = All-nil (SetsUnclocked d)
  data_are_unclocked (setting ∷ others) set =
      let one = All-head (SetsData d) setting others set in
      All-cons (SetsUnclocked d) setting others (data_unclocked d setting.input one.data_input, one.can_be)
      (data_are_unclocked others (All-tail (SetsData d) setting others set))

  pub are_settings : (all : List Setting) → All (SetsUnclocked d) all → AreSettings d (pairs all)
  are_settings [] set = tt
  are_settings (setting ∷ others) set =
      let one = All-head (SetsUnclocked d) setting others set in
      ((one.1.wide, one.1.known), are_settings others (All-tail (SetsUnclocked d) setting others set))

  set_unclocked : (all : List Setting) → All (SetsUnclocked d) all → SetData d (pairs all)
  set_unclocked [] set = tt
  set_unclocked (setting ∷ others) set =
      let one = All-head (SetsUnclocked d) setting others set in
      (one.0, one.1.wide, set_unclocked others (All-tail (SetsUnclocked d) setting others set))

  pub set_data : (all : List Setting) → All (SetsData d) all → SetData d (pairs all)
  set_data all set = set_unclocked all (data_are_unclocked all set)

  -- what is no input stays
  given_other : (n : Values) (all : List Setting) → All (SetsUnclocked d) all → (i : ℕ) → (IsTrue (is_input d i) → ⊥) → given_after n all i ≡ n i
  given_other n [] set i other = refl
  given_other n (setting ∷ others) set i other =
      let one = All-head (SetsUnclocked d) setting others set in
      given_other (put n setting.input setting.number) others (All-tail (SetsUnclocked d) setting others set) i other
      ∙ put_other n setting.input i setting.number (λ same. other (subst (λ (j : ℕ). IsTrue (is_input d j)) (sym same) one.0.input))

-- ---- from a settled state

-- a settled state with registers is one
pub settled_round : (d : Flat) (chains : ℕ → Chain) (f : Fill) (s : State) (n : Values) → IsSettledKnown d chains f s n → IsSettled d f s n
settled_round d chains f s n settled =
    record {
      rest = settled.rest;
      wide = settled.wide;
      shows = λ i k lasts.
          past_ends d s.value n settled.wide settled.solution.numbers.wide i k (λ inside. (settled.shows i k inside lasts).same);
      drivers = settled.drivers;
      solution = settled.solution;
    }

module _ (d : Flat) (level : ℕ → ℕ) (solvable : IsSolvable d level) (sync : IsSynchronous d) (f : Fill) (s : State) (n : Values) (settled : IsSettled d f s n) (all : List Setting) (set : All (SetsUnclocked d) all) (t : State) (next : IsNext d s all t) (holds : (i k : ℕ) → IsHeldBit d (given_with n (pairs all)) i k → Same t.value s.value i k) where
  -- the settled state is as runs have it
  orderly : IsOrderly d s
  orderly =
      (arrive d level solvable f s n settled (record { step = []; events = [] }) (record { settings = tt; can = tt }) settled.rest).orderly

  abbrev here : State
  here = run d (offer s (pairs all)) next.reaches.events

  rests : IsAtRest d here
  rests = subst (IsAtRest d) (sym next.reaches.leads) next.rest

  arrived : IsArrived d (given_with n (pairs all)) here
  arrived =
      arrive d level solvable f s n settled (record { step = pairs all; events = next.reaches.events })
      (record { settings = are_settings d all set; can = next.reaches.can }) rests

  -- clocks and resets stay
  here_cone : (i k : ℕ) → InClockCone d i → Same here.value s.value i k
  here_cone i k cone =
      let offers = offer_is s (pairs all) in
      (quiet_run d sync (offer s (pairs all)) next.reaches.events next.reaches.can
      (orderly_offer d s (pairs all) (set_wide d (pairs all) (set_unclocked d all set)) orderly)
      (data_quiet d sync s (pairs all) settled.rest (set_unclocked d all set))).cone i k cone
      ∙ ap (λ (u : State). bit u.value i k) offers

  pub cone_stays : (i k : ℕ) → InClockCone d i → Same t.value s.value i k
  cone_stays i k cone =
      ap (λ (u : State). bit u.value i k) (sym next.reaches.leads) ∙ here_cone i k cone

  not_input : (i k : ℕ) → IsRegisterBit d i k → IsTrue (is_input d i) → ⊥
  not_input i k register input =
      variable_input d i
      (body_variable d solvable.lawful register.process (ap is_body register.does) i k
      (to_process MayWrite d register.process i k (Edge' register.events register.body) register.does register.may))
      input

  latch_no_input : (i k : ℕ) → IsLatchBit d i k → IsTrue (is_input d i) → ⊥
  latch_no_input i k latch input =
      variable_input d i (body_variable d solvable.lawful latch.process (ap is_body latch.admitted.latch.does) i k latch.may) input

  -- registers stay
  stays : (i k : ℕ) → IsRegisterBit d i k → bit here.value i k ≡ bit n i k
  stays i k register =
      let offers = offer_is s (pairs all) in
      at_data d sync (offer s (pairs all)) next.reaches.events next.reaches.can
      (orderly_offer d s (pairs all) (set_wide d (pairs all) (set_unclocked d all set)) orderly)
      (data_quiet d sync s (pairs all) settled.rest (set_unclocked d all set))
      (ap (λ (u : State). u.activated) offers ∙ settled.rest.no_active.updates)
      (ap (λ (u : State). u.delayed) offers ∙ settled.rest.no_delayed)
      rests register.process register.events register.body register.does i k register.may
      ∙ ap (λ (u : State). bit u.value i k) offers
      ∙ settled.shows i k register.lasting

  given_same : (i k : ℕ) → (IsTrue (is_input d i) → ⊥) → bit (given_with n (pairs all)) i k ≡ bit n i k
  given_same i k other =
      ap (λ (v : Values). bit v i k) (given_pairs n all)
      ∙ ap (λ bits. get_or bits k X) (given_other d n all set i other)

  given_stays : (i k : ℕ) → IsRegisterBit d i k → bit (given_with n (pairs all)) i k ≡ bit n i k
  given_stays i k register = given_same i k (not_input i k register)

  -- closed latches hold
  latch_stays : (i k : ℕ) → IsHeldBit d (given_with n (pairs all)) i k → bit n i k ≡ bit (given_with n (pairs all)) i k
  latch_stays i k is = sym (given_same i k (latch_no_input i k is.latch))

  latch_holds : (i k : ℕ) → IsHeldBit d (given_with n (pairs all)) i k → bit here.value i k ≡ bit (given_with n (pairs all)) i k
  latch_holds i k is =
      ap (λ (u : State). bit u.value i k) next.reaches.leads ∙ holds i k is ∙ settled.shows i k is.latch.lasting ∙ latch_stays i k is

  given_are : AreGiven d (given_with n (pairs all))
  given_are =
      record {
        inputs = λ i input.
            followed.given_known d level solvable n (pairs all) (are_settings d all set) settled.solution.numbers.known i;
        registers = λ i k register.
            known_bit i k (given_stays i k register) (register_inside d level solvable i k register);
        latches = λ i k is.
            known_bit i k (sym (latch_stays i k is)) (latch_inside d level solvable i k is.latch);
      }
    where
      known_bit : (i k : ℕ) → bit (given_with n (pairs all)) i k ≡ bit n i k → k < widths d i → is_unknown (bit (given_with n (pairs all)) i k) ≡ false
      known_bit i k same inside =
          let size = settled.solution.numbers.wide i in
          subst (λ (b : Bit). is_unknown b ≡ false) (sym same)
          (known_at (n i) k (settled.solution.numbers.known i) (omega (arith, size, inside)))

  abbrev new : Values
  new = numbers_of d f here.value

  all_followed : IsFollowed d f n (given_with n (pairs all)) here new
  all_followed =
      followed.followed d level solvable f (given_with n (pairs all)) (given_with n (pairs all)) here arrived given_are (λ i input. refl)
      (λ i k register. stays i k register ∙ sym (given_stays i k register)) latch_holds n settled.solution.numbers latch_stays

  here_followed : (chains : ℕ → Chain) → IsDataFollowed d chains f n all here
  here_followed chains =
      let solution = all_followed.solution in
      record {
        next = new;
        follows = record {
          inputs = λ i input. solution.inputs i input ∙ ap (λ (v : Values). v i) (given_pairs n all);
          registers = λ p events body does i k may lasts.
              let register : IsRegisterBit d i k = record { process = p; events = events; body = body; does = does; may = may; lasting = lasts } in
              solution.kept i k register ∙ given_stays i k register;
          rest = record {
            numbers = solution.numbers;
            inputs = λ i input. refl;
            kept = λ i k register. refl;
            assigns = solution.assigns;
            blocks = solution.blocks;
            others = solution.others;
          };
        };
        settled = all_followed.settled;
      }

  pub to_next : (chains : ℕ → Chain) → IsDataFollowed d chains f n all t
  to_next chains = subst (IsDataFollowed d chains f n all) next.reaches.leads (here_followed chains)

-- ---- both fills

pub settled_both : (d : Flat) (level : ℕ → ℕ) → IsSolvable d level → SettlesBoth d
settled_both d level solvable f g s n settled = followed.settled_both d level solvable f g s n settled
