-- Marks from which soundness follows.
use Rattle.std.specs.Prelude.{◌≡◌, ℕ, Bool, true, List, map}
use Rattle.event_model.specs.Queue.{State}
use Rattle.rtl_flat.specs.Flats.{Flat}
use Rattle.event_model.specs.Writes.{Values}
use Rattle.net_model.specs.declared.fill.Fill.{Fill}
use Rattle.net_model.specs.Cycle.{Chain, Step, settings}
use Rattle.net_model.specs.Gates.{IsLatchBit}
use Rattle.net_model.specs.Lawful.{AreLawfulSteps}
use Rattle.net_model.specs.Solution.{IsRegisterBit}
use Rattle.net_covers.specs.Marks.{AreMarks}
use Rattle.sign_cycles.specs.Agree.{AreCycles, AreRuns, IsSettledKnown}
use Rattle.sign_cycles.specs.Formed.{IsCleanClocked}
use Rattle.sign_unknown.specs.Unknown.{AllShowKnown, HasReset, IsCompletion, IsSettledPartly, IsSound}

-- marks that begin with latches and with registers that have no reset
pub record AreStartMarks (d : Flat) (chains : ℕ → Chain) (Doubt : ℕ → Type 0) : Type 0 where
  pub marks : AreMarks d Doubt
  pub registers : (i k : ℕ) → IsRegisterBit d i k → (Doubt i → ⊥) → HasReset d chains i
  pub latches : (i k : ℕ) → IsLatchBit d i k → Doubt i

-- what is known is the number's after each of some steps, for all numbers that follow
abbrev pub StepsSound : Flat → (ℕ → Chain) → Fill → Type 0
StepsSound d chains f =
    (s : State) → IsSettledPartly d chains s → (n : Values) → IsCompletion d chains f s n →
    (steps : List Step) → AreLawfulSteps d n steps →
    (states : List State) → AreRuns d s (map settings steps) states →
    (numbers : List Values) → AreCycles d chains f n steps numbers → AllShowKnown d states numbers

-- so it is in a clean design with such marks
abbrev pub StepsSoundClean : Flat → (ℕ → Chain) → (ℕ → ℕ) → Type 0
StepsSoundClean d chains level =
    IsCleanClocked d chains level →
    (marked : ℕ → Bool) → AreStartMarks d chains (λ i. marked i ≡ true) → (f : Fill) → StepsSound d chains f

-- from settled states of known values each list of lawful steps can come to rest
abbrev pub StepsRest : Flat → (ℕ → Chain) → Fill → Type 0
StepsRest d chains f =
    (s : State) (n : Values) → IsSettledKnown d chains f s n →
    (steps : List Step) → AreLawfulSteps d n steps → (states : List State) × AreRuns d s (map settings steps) states

-- then there are numbers that follow, and simulation is sound
abbrev pub SoundWhereRest : Flat → (ℕ → Chain) → (ℕ → ℕ) → Type 0
SoundWhereRest d chains level =
    IsCleanClocked d chains level →
    (marked : ℕ → Bool) → AreStartMarks d chains (λ i. marked i ≡ true) →
    (f : Fill) → StepsRest d chains f → IsSound d chains f
