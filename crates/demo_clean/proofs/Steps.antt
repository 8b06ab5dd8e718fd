-- A step of a trial leads from a settled state to a settled one.
use Rattle.std.specs.Prelude.{IsTrue}
use Rattle.std.proofs.Common.{◌≡◌, ◌∙◌, ℕ, List, [], ◌∷◌, map, Option, Some, refl, sym}
use Rattle.std.proofs.lemmas.List.{ext_get_or}
use Rattle.rtl_bits.specs.declared.Bit.{Bit}
use Rattle.rtl_bits.specs.declared.Bit.TheVariants.{X}
use Rattle.event_model.specs.declared.policy.Policy.{Policy}
use Rattle.event_model.specs.Policies.{IsDone, PolicyRun}
use Rattle.event_model.specs.Queue.{IsAtRest, State, is_input, offer}
use Rattle.rtl_flat.specs.Flats.{Flat}
use Rattle.event_model.specs.Writes.{Values, put}
use Rattle.event_model.proofs.Runs.{policy_reaches, policy_ready, policy_rests}
use Rattle.net_model.proofs.Gates.{control_input}
use Rattle.net_model.specs.declared.fill.Fill.{Fill}
use Rattle.net_model.specs.Cycle as cycle
use Rattle.net_model.specs.Cycle.{Chain, Data, IsCycle, Step, Turn, settings}
use Rattle.net_model.specs.Lawful.{IsLawfulStep}
use Rattle.net_model.specs.Numbers.{AreNumbers}
use Rattle.check_clean.proofs.sign_cycles_proofs.Settled.{input_lasts}
use Rattle.check_clean.specs.sign_cycles.Agree.{AreSame, IsNext, after_offer}
use Rattle.check_clean.specs.sign_cycles.Formed.{IsCleanClocked}
use Rattle.check_clean.proofs.sign_cycles_proofs.Alone.{steps_alone}
use Rattle.check_clean.proofs.sign_cycles_proofs.Steps.{steps_follow}
use Rattle.demo_clean.proofs.Begins.{IsShowing}

-- ---- runs

offer_delayed : (s : State) (all : List (ℕ × List Bit)) → (offer s all).delayed ≡ s.delayed
offer_delayed s [] = refl
offer_delayed s ((i, bits) ∷ others) = offer_delayed (record s { offered = put s.offered i (Some bits) }) others

-- where a policy's run finds nothing more to take, a step came to rest
pub next : (d : Flat) (policy : Policy) (order : ℕ → Option ℕ) (s t : State) (all : List cycle.Setting) (spent : ℕ) → IsAtRest d s → PolicyRun policy order d (after_offer s all) spent t → IsDone policy order d t → IsNext d s all t
next d policy order s t all spent rest run done =
    record {
      reaches = policy_reaches policy order d (after_offer s all) t spent run;
      rest = policy_rests policy order d t
          (policy_ready policy order d (after_offer s all) t spent (λ none. offer_delayed s (map (λ (setting : cycle.Setting). (setting.input, setting.number)) all) ∙ rest.no_delayed) run) done;
    }

-- ---- one step

module _ (d : Flat) (chains : ℕ → Chain) (level : ℕ → ℕ) (clean : IsCleanClocked d chains level) (f : Fill) where
  -- inputs have the same numbers
  input_same : (n m : Values) → AreNumbers d n → AreNumbers d m → AreSame d n m → (i : ℕ) → IsTrue (is_input d i) → n i ≡ m i
  input_same n m are are' same i input =
      ext_get_or X (n i) (m i) (are.wide i ∙ sym (are'.wide i)) (λ k below. same i k (input_lasts d i input))

  -- so a step is lawful from both
  lawful_too : (n m : Values) → AreNumbers d n → AreNumbers d m → AreSame d n m → (step : Step) → IsLawfulStep d m step → IsLawfulStep d n step
  lawful_too n m are are' same (Data all) lawful = lawful
  lawful_too n m are are' same (Turn setting) lawful =
      record {
        control = lawful.control;
        can_be = lawful.can_be;
        other = λ e. lawful.other (e ∙ input_same n m are are' same setting.input (control_input d setting.input lawful.control));
      }

  pub goes_on :
      (s t : State) (n m : Values) → IsShowing d chains f s n → (step : Step) → IsLawfulStep d n step → IsNext d s (settings step) t →
      IsCycle d chains f n step m → IsShowing d chains f t m
  goes_on s t n m showing step lawful next cycles =
      let numbers = showing.settled.solution.numbers in
      let mine = lawful_too showing.numbers n numbers showing.are showing.same step lawful in
      let followed = steps_follow d chains level clean f s showing.numbers showing.settled step mine t next in
      record {
        numbers = followed.next;
        settled = followed.settled;
        are = cycles.rest.numbers;
        same = steps_alone d chains level clean f showing.numbers n numbers showing.are showing.same step followed.next m followed.follows cycles;
      }
