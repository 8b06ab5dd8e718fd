-- From one step to lists of steps.
use Rattle.std.proofs.Common.{ℕ, List, [], ◌∷◌, map, refl, sym, ap, inl, inr, arith}
use Rattle.std.specs.List.{All}
use Rattle.std.proofs.lemmas.List.Elements.{All-cons, All-nil}
use Rattle.event_model.specs.Queue.{State, drive_now, settled_at}
use Rattle.rtl_flat.specs.Flats.{Flat}
use Rattle.event_model.specs.Writes.{Values}
use Rattle.net_model.specs.declared.fill.Fill.{Fill}
use Rattle.net_model.specs.Cycle.{Chain, Data, IsCycle, Setting, Step, Turn, given_after, settings}
use Rattle.net_model.specs.Gates.{IsGateInput}
use Rattle.net_model.specs.Lawful.{AreLawfulSteps, IsLawfulStep, SetsData, TurnsControl}
use Rattle.net_model.proofs.Gates.{gate_is_input}
use Rattle.sign_cycles.proofs.net_laws_proofs.Known.{known_at}
use Rattle.net_covers.specs.Marks.{AreMarks}
use Rattle.sign_cycles.specs.Agree.{AreCycles, AreRuns, IsNext, IsSettledKnown}
use Rattle.sign_cycles.specs.Formed.{IsCleanClocked}
use Rattle.sign_cycles.proofs.DataSteps.{SetsUnclocked, are_settings, data_are_unclocked, pairs, set_data}
use Rattle.sign_cycles.proofs.GateSteps.{data_leave}
use Rattle.sign_cycles.proofs.Held.{gate_no_clock, latch_gate}
use Rattle.sign_cycles.proofs.Lists.{GivesAlike, lawful_alike, output_lasts}
use Rattle.sign_cycles.proofs.Settled.{are_wide}
use Rattle.sign_cycles.proofs.Steps.{agreement}
use Rattle.sign_unknown.specs.Laws.{AreStartMarks, StepsRest, StepsSound}
use Rattle.sign_unknown.specs.Unknown.{AllShowKnown, IsCompletion, IsSound, ShowsKnown}
use Rattle.sign_unknown.proofs.Edges.{edge_kept}
use Rattle.sign_unknown.proofs.Held.{held_turn, held_unset}
use Rattle.sign_unknown.proofs.Kept.{IsKept, kept_start}
use Rattle.sign_unknown.proofs.Unclocked.{data_kept, gate_kept}

module _ (d : Flat) (chains : ℕ → Chain) (level : ℕ → ℕ) (clean : IsCleanClocked d chains level) (f : Fill) (Doubt : ℕ → Type 0) (marks : AreMarks d Doubt) where
  -- ---- one step

  module _ (s : State) (n : Values) (kept : IsKept d chains f Doubt s n) where
    by_data : (all : List Setting) → All (SetsData d) all → (t : State) → IsNext d s all t → (m : Values) → IsCycle d chains f n (Data all) m → IsKept d chains f Doubt t m
    by_data all set t next m cycle =
        let set' = data_are_unclocked d all set in
        data_kept d chains level clean f Doubt marks s n kept all set' (set_data d all set) t next
        (λ i k is.
        held_unset d chains level clean f Doubt s n kept all (are_wide d (pairs all) (are_settings d all set')) i k is
        (data_leave d all set is.latch.gate.input (latch_gate d i k is.latch)) t next) m cycle

    by_gate :
        (setting : Setting) → IsGateInput d setting.input → TurnsControl d n setting → (t : State) → IsNext d s (setting ∷ []) t →
        (m : Values) → IsCycle d chains f n (Turn setting) m → IsKept d chains f Doubt t m
    by_gate setting gate turns t next m cycle =
        let free : SetsUnclocked d setting = (record { input = gate_is_input d setting.input gate; no_clock = gate_no_clock d setting.input gate }, turns.can_be) in
        gate_kept d chains level clean f Doubt marks s n kept (setting ∷ []) (All-cons (SetsUnclocked d) setting [] free (All-nil (SetsUnclocked d)))
        (free.0, turns.can_be.wide, tt) t next
        (λ i k is. held_turn d chains level clean f Doubt s n kept setting turns.can_be i k is t next) setting refl m cycle

    step_kept : (step : Step) → IsLawfulStep d n step → (t : State) → IsNext d s (settings step) t → (m : Values) → IsCycle d chains f n step m → IsKept d chains f Doubt t m
    step_kept (Data all) lawful t next m cycle = by_data all lawful t next m cycle
    step_kept (Turn setting) lawful t next m cycle =
        elim lawful.control [
          | inl clock ↦ edge_kept d chains level clean f Doubt marks s n kept setting clock lawful t next m cycle
          | inr gate ↦ by_gate setting gate lawful t next m cycle
        ]

  -- ---- lists

  shows : (s : State) (n : Values) → IsKept d chains f Doubt s n → ShowsKnown d s n
  shows s n kept i k inside (inl output) = (kept.tells i k (output_lasts d i output)).may
  shows s n kept i k inside (inr lasts) = (kept.tells i k lasts).may

  all_show :
      (s : State) (n : Values) → IsKept d chains f Doubt s n → (steps : List Step) → AreLawfulSteps d n steps →
      (states : List State) → AreRuns d s (map settings steps) states →
      (numbers : List Values) → AreCycles d chains f n steps numbers → AllShowKnown d states numbers
  all_show s n kept [] lawful [] runs [] cycles = tt
  all_show s n kept [] lawful [] runs (m ∷ numbers) cycles = cycles
  all_show s n kept [] lawful (t ∷ states) runs numbers cycles = absurd runs
  all_show s n kept (step ∷ steps) lawful [] runs numbers cycles = absurd runs
  all_show s n kept (step ∷ steps) lawful (t ∷ states) runs [] cycles = absurd cycles
  all_show s n kept (step ∷ steps) lawful (t ∷ states) runs (m ∷ numbers) cycles =
      let one = step_kept s n kept step lawful.0 t runs.0 m cycles.0 in
      let alike : GivesAlike d (given_after n (settings step)) m = λ i is. sym (cycles.0.inputs i is) in
      (shows t m one, all_show t m one steps (lawful_alike d (given_after n (settings step)) m alike steps lawful.1) states runs.1 numbers cycles.1)

-- from a settled state and a completion of it
pub steps_sound :
    (d : Flat) (chains : ℕ → Chain) (level : ℕ → ℕ) → IsCleanClocked d chains level →
    (Doubt : ℕ → Type 0) → AreStartMarks d chains Doubt → (f : Fill) → StepsSound d chains f
steps_sound d chains level clean Doubt marks f s settled n completion =
    all_show d chains level clean f Doubt marks.marks s n (kept_start d level clean.solvable chains f Doubt s n marks settled completion)

-- numbers that a state may have are those of a settled state of their own
pub completion_settled :
    (d : Flat) (chains : ℕ → Chain) (f : Fill) (s : State) (n : Values) → IsCompletion d chains f s n →
    IsSettledKnown d chains f (settled_at d n) n
completion_settled d chains f s n completion =
    let numbers = completion.solution.numbers in
    record {
      rest = record {
        no_active = record { inputs = λ i is. refl; processes = λ p is. refl; drivers = λ p is. refl; updates = refl };
        no_delayed = refl;
      };
      wide = numbers.wide;
      shows = λ i k inside lasts.
          let size = numbers.wide i in
          record { known = known_at (n i) k (numbers.known i) (omega (arith, size, inside)); same = refl };
      drivers = λ p target e is. ap (drive_now n) is;
      solution = completion.solution;
      resets = completion.resets;
    }

-- so there are numbers that follow, where steps can come to rest from there
pub sound_by :
    (d : Flat) (chains : ℕ → Chain) (level : ℕ → ℕ) → IsCleanClocked d chains level →
    (Doubt : ℕ → Type 0) → AreStartMarks d chains Doubt → (f : Fill) → StepsRest d chains f → IsSound d chains f
sound_by d chains level clean Doubt marks f rest =
    record {
      sound = λ s settled n completion steps lawful states runs.
          let known = completion_settled d chains f s n completion in
          let (others, runs') = rest (settled_at d n) n known steps lawful in
          let one = (agreement d chains level clean f).agrees (settled_at d n) n known steps lawful others runs' in
          record {
            numbers = one.numbers;
            follow = one.follow;
            alone = one.alone;
            show = steps_sound d chains level clean Doubt marks f s settled n completion steps lawful states runs one.numbers one.follow;
          };
    }
