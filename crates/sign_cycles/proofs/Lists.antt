-- What holds of one step holds of lists of them.
use Rattle.std.proofs.Common.{◌≡◌, ◌⊎◌, ℕ, Bool, true, false, List, [], ◌∷◌, map, Option, None, Some, refl, sym, ◌∙◌, inl, inr}
use Rattle.std.specs.Prelude.{IsTrue, ◌==◌, if◌then◌else◌}
use Rattle.std.specs.List.{slice_get}
use Rattle.std.specs.Option.{IsSomeAnd}
use Rattle.rtl_bits.specs.declared.Bit.{Bit}
use Rattle.rtl_flat.specs.declared.signal.Signal.{Signal}
use Rattle.event_model.specs.Queue.{State, is_input}
use Rattle.rtl_flat.specs.Flats.{Flat}
use Rattle.event_model.specs.Writes.{Values, put}
use Rattle.net_model.specs.declared.fill.Fill.{Fill}
use Rattle.net_model.specs.Cycle.{Chain, Data, Setting, Step, Turn, given_after, settings}
use Rattle.net_model.specs.Lawful.{AreLawfulSteps, IsLawfulStep}
use Rattle.net_model.proofs.Gates.{control_input}
use Rattle.net_model.specs.Numbers.{AreNumbers}
use Rattle.net_model.specs.Solution.{IsLasting}
use Rattle.sign_cycles.specs.Agree.{Agree, AreCycles, AreFollowed, AreRuns, AreSame, AreSameLists, IsOutput, IsSettledKnown, ShowsAll}
use Rattle.sign_cycles.specs.Laws.{StepsAreAlone, StepsFollow}

-- ---- lawful steps speak of inputs alone

abbrev pub GivesAlike : Flat → Values → Values → Type 0
GivesAlike d n m = (i : ℕ) → IsTrue (is_input d i) → n i ≡ m i

put_alike : (d : Flat) (n m : Values) (j : ℕ) (bits : List Bit) → GivesAlike d n m → GivesAlike d (put n j bits) (put m j bits)
put_alike d n m j bits alike i is = by_test (i == j)
  where
    by_test : (b : Bool) → (if b then bits else n i) ≡ (if b then bits else m i)
    by_test true = refl
    by_test false = alike i is

pub given_alike : (d : Flat) (n m : Values) (all : List Setting) → GivesAlike d n m → GivesAlike d (given_after n all) (given_after m all)
given_alike d n m [] alike = alike
given_alike d n m (setting ∷ others) alike =
    given_alike d (put n setting.input setting.number) (put m setting.input setting.number) others (put_alike d n m setting.input setting.number alike)

lawful_step_alike : (d : Flat) (n m : Values) → GivesAlike d n m → (step : Step) → IsLawfulStep d n step → IsLawfulStep d m step
lawful_step_alike d n m alike (Data all) lawful = lawful
lawful_step_alike d n m alike (Turn setting) lawful =
    record {
      control = lawful.control;
      can_be = lawful.can_be;
      other = λ same. lawful.other (same ∙ sym (alike setting.input (control_input d setting.input lawful.control)));
    }

pub lawful_alike : (d : Flat) (n m : Values) → GivesAlike d n m → (steps : List Step) → AreLawfulSteps d n steps → AreLawfulSteps d m steps
lawful_alike d n m alike [] lawful = tt
lawful_alike d n m alike (step ∷ steps) lawful =
    (lawful_step_alike d n m alike step lawful.0, lawful_alike d (given_after n (settings step)) (given_after m (settings step)) (given_alike d n m (settings step) alike) steps lawful.1)

-- ---- outputs and registers last

shown_inner : (o : Option Signal) → IsSomeAnd o (λ signal. signal.top_output ≡ true) → IsSomeAnd o (λ signal. signal.top_output ≡ false) → ⊥
shown_inner None shown inner = shown
shown_inner (Some signal) shown inner = absurd (let no = sym shown ∙ inner in cc)

pub output_lasts : (d : Flat) (i : ℕ) → IsOutput d i → IsLasting d i
output_lasts d i output temporary = shown_inner (slice_get d.signals i) output temporary.of_process.inner

pub shows_all : (d : Flat) (chains : ℕ → Chain) (f : Fill) (s : State) (n : Values) → IsSettledKnown d chains f s n → ShowsAll d s n
shows_all d chains f s n settled i k inside which = settled.shows i k inside (lasts which)
  where
    lasts : IsOutput d i ⊎ IsLasting d i → IsLasting d i
    lasts (inl output) = output_lasts d i output
    lasts (inr last) = last

-- ---- lists

module _ (d : Flat) (chains : ℕ → Chain) (f : Fill) where
  pub alone_lists :
      StepsAreAlone d chains f → (n m : Values) → AreNumbers d n → AreNumbers d m → AreSame d n m →
      (steps : List Step) (numbers others : List Values) → AreCycles d chains f n steps numbers → AreCycles d chains f m steps others →
      AreSameLists d numbers others
  alone_lists alone n m first second same [] [] [] one two = tt
  alone_lists alone n m first second same [] [] (other ∷ others) one two = two
  alone_lists alone n m first second same [] (next ∷ numbers) others one two = absurd one
  alone_lists alone n m first second same (step ∷ steps) [] others one two = absurd one
  alone_lists alone n m first second same (step ∷ steps) (next ∷ numbers) [] one two = two
  alone_lists alone n m first second same (step ∷ steps) (next ∷ numbers) (other ∷ others) one two =
      let same_next = alone n m first second same step next other one.0 two.0 in
      (same_next, alone_lists alone next other one.0.rest.numbers two.0.rest.numbers same_next steps numbers others one.1 two.1)

  module _ (follow : StepsFollow d chains f) (alone : StepsAreAlone d chains f) where
    followed :
        (s : State) (n : Values) → IsSettledKnown d chains f s n → (steps : List Step) → AreLawfulSteps d n steps →
        (states : List State) → AreRuns d s (map settings steps) states → AreFollowed d chains f n steps states
    followed s n settled [] lawful [] runs =
        record { numbers = []; follow = tt; alone = λ others. alone_lists alone n n settled.solution.numbers settled.solution.numbers (λ i k lasts. refl) [] [] others tt; show = tt }
    followed s n settled [] lawful (t ∷ states) runs = absurd runs
    followed s n settled (step ∷ steps) lawful [] runs = absurd runs
    followed s n settled (step ∷ steps) lawful (t ∷ states) runs =
        let one = follow s n settled step lawful.0 t runs.0 in
        let alike : GivesAlike d (given_after n (settings step)) one.next = λ i is. sym (one.follows.inputs i is) in
        let rest = followed t one.next one.settled steps (lawful_alike d (given_after n (settings step)) one.next alike steps lawful.1) states runs.1 in
        let cycles : AreCycles d chains f n (step ∷ steps) (one.next ∷ rest.numbers) = (one.follows, rest.follow) in
        record {
          numbers = one.next ∷ rest.numbers;
          follow = cycles;
          alone = λ others. alone_lists alone n n settled.solution.numbers settled.solution.numbers (λ i k lasts. refl) (step ∷ steps) (one.next ∷ rest.numbers) others cycles;
          show = (shows_all d chains f t one.next one.settled, rest.show);
        }

pub agree_by_steps : (d : Flat) (chains : ℕ → Chain) (f : Fill) → StepsFollow d chains f → StepsAreAlone d chains f → Agree d chains f
agree_by_steps d chains f follow alone = record { agrees = followed d chains f follow alone }
