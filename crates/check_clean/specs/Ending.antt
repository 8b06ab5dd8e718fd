-- What is promised of the runs of a design without a finding of the first grade: each of them ends, so that there are states
-- of which agreement speaks.
use Rattle.std.specs.Prelude.{ℕ, List, map}
use Rattle.std.specs.List.{All}
use Rattle.event_model.specs.Queue.{State, power_up}
use Rattle.rtl_flat.specs.Flats.{Flat, Parts}
use Rattle.event_model.specs.Writes.{Values}
use Rattle.check_laws.specs.event_laws.Steady.{AreLawful}
use Rattle.check_laws.specs.event_settling.Ending.{IsReached, RunsEnd}
use Rattle.net_model.specs.declared.fill.Fill.{Fill}
use Rattle.net_model.specs.Cycle.{AreChains, Chain, Setting, Step, settings}
use Rattle.net_model.specs.Lawful.{AreLawfulSteps, IsSetting}
use Rattle.sign_cycles.specs.Agree.{AreFollowed, AreRuns, IsSettledKnown}
use Rattle.sign_cycles.specs.BringUp.{HaveResets, IsBringUp, last}
use Rattle.rtl_rule.specs.declared.finding.Finding.{Finding}
use Rattle.check_all.specs.Findings.{AreAllFindings, IsClean}
use Rattle.check_laws.specs.Expressions.{AreMarked}

-- where none of all findings of a lawful design is of the first grade, every run of every step comes to rest, from power-up,
-- from settled states, and from where the run of an earlier step came to rest
abbrev pub EndsByRules : Parts → Type 0
EndsByRules d =
    AreLawful d.flat →
    (findings : List Finding) → AreAllFindings d findings → IsClean findings → RunsEnd d.flat

-- the states of which agreement speaks are among those that steps start from
abbrev pub SettledAreReached : Flat → Type 0
SettledAreReached d =
    (chains : ℕ → Chain) (fill : Fill) (s : State) (n : Values) → IsSettledKnown d chains fill s n →
    IsReached d s

-- ---- states follow

-- over steps that set inputs to known values of their widths, some states follow from each state that steps start from
abbrev pub HasRuns : Flat → Type 0
HasRuns d =
    (s : State) → IsReached d s → (steps : List (List Setting)) → All (All (IsSetting d)) steps →
    (states : List State) × AreRuns d s steps states

abbrev pub HasRunsByRules : Parts → Type 0
HasRunsByRules d =
    AreLawful d.flat →
    (findings : List Finding) → AreAllFindings d findings → IsClean findings → HasRuns d.flat

-- states to which steps lead, that show the numbers which follow
pub record IsShown (d : Flat) (chains : ℕ → Chain) (f : Fill) (s : State) (n : Values) (steps : List Step) : Type 0 where
  pub states : List State
  pub runs : AreRuns d s (map settings steps) states
  pub followed : AreFollowed d chains f n steps states

-- states to which a bring-up leads, the last of which is settled
pub record IsBroughtUp (d : Flat) (chains : ℕ → Chain) (f : Fill) (steps : List (List Setting)) : Type 0 where
  pub states : List State
  pub runs : AreRuns d (power_up d) steps states
  pub numbers : Values
  pub settled : IsSettledKnown d chains f (last (power_up d) states) numbers

-- from every settled state all lawful steps lead to states that show the numbers which follow; and where each register has a
-- reset, every bring-up leads to a settled state
pub record IsFulfilled (d : Flat) (chains : ℕ → Chain) (f : Fill) : Type 0 where
  pub shown :
      (s : State) (n : Values) → IsSettledKnown d chains f s n →
      (steps : List Step) → AreLawfulSteps d n steps → IsShown d chains f s n steps
  pub brought_up :
      HaveResets d chains → (steps : List (List Setting)) → IsBringUp d chains steps → IsBroughtUp d chains f steps

abbrev pub FulfilledByRules : Parts → Type 0
FulfilledByRules d =
    AreLawful d.flat → AreMarked d.flat →
    (findings : List Finding) → AreAllFindings d findings → IsClean findings →
    (chains : ℕ → Chain) → AreChains d.flat chains → (fill : Fill) → IsFulfilled d.flat chains fill
