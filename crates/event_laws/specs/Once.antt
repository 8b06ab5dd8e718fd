-- It serves inner contracts and proofs; no answer of the program is stated by it.
-- Runs of a policy from one state.
use Rattle.std.specs.Prelude.{◌≡◌, ◌+◌, ◌<◌, ℕ, length, Option}
use Rattle.rtl_flat.specs.Levels.{IsLevel}
use Rattle.event_model.specs.declared.policy.Policy.{Policy}
use Rattle.event_model.specs.Policies.{IsDone, IsTooDear, PolicyRun, budget}
use Rattle.event_model.specs.Queue.{State}
use Rattle.rtl_flat.specs.Flats.{Flat}

-- a process has one level
abbrev pub HaveOneLevel : Flat → Type 0
HaveOneLevel d =
    (p : ℕ) (one other : Option ℕ) →
    IsLevel d.signals d.tasks p one → IsLevel d.signals d.tasks p other → one ≡ other

-- levels that agree where there are processes
abbrev pub AgreeBelow : Flat → (ℕ → Option ℕ) → (ℕ → Option ℕ) → Type 0
AgreeBelow d f g = (p : ℕ) → p < length d.tasks → f p ≡ g p

-- runs that find nothing more to take end in one state
abbrev pub EndOnce : Flat → Type 0
EndOnce d =
    (policy : Policy) (f g : ℕ → Option ℕ) → AgreeBelow d f g →
    (s t u : State) (a b : ℕ) →
    PolicyRun policy f d s a t → IsDone policy f d t →
    PolicyRun policy g d s b u → IsDone policy g d u → t ≡ u

-- where one ends within the budget, no other comes to an event that costs more than is left
abbrev pub StopNowhereElse : Flat → Type 0
StopNowhereElse d =
    (policy : Policy) (f g : ℕ → Option ℕ) → AgreeBelow d f g →
    (s t u : State) (a b left over : ℕ) →
    left + a ≡ budget d → PolicyRun policy f d s a t → IsDone policy f d t →
    over + b ≡ budget d → PolicyRun policy g d s b u → IsTooDear policy g d u over → ⊥
