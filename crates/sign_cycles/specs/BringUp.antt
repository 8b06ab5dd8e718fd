-- Bring-up: from power-up to the settled states from which agreement begins.
-- Worked examples: proofs/Register.antt, proofs/LatchExample.antt, crates/sign_off/proofs/Example.antt.
use Rattle.std.specs.Prelude.{◌≡◌, ◌≢◌, ℕ, ◌==◌, Bool, List, [], ◌∷◌, Some, IsTrue}
use Rattle.std.specs.List.{All, list_any}
use Rattle.rtl_flat.specs.Process.{Watched, Actions, Edge'}
use Rattle.event_model.specs.Queue.{State, doing_at, is_input, power_up}
use Rattle.rtl_flat.specs.Flats.{Flat}
use Rattle.event_model.specs.Writes.{Values}
use Rattle.net_model.specs.declared.fill.Fill.{Fill}
use Rattle.net_model.specs.Control.{IsReached}
use Rattle.net_model.specs.Cycle.{Chain, Guard, Setting, given_after, level}
use Rattle.net_model.specs.Gates.{Gate, IsAdmitted}
use Rattle.net_model.specs.Lawful.{IsSetting}
use Rattle.net_model.specs.Numbers.{bit}
use Rattle.net_model.specs.Solution.{IsRegisterBit}
use Rattle.sign_cycles.specs.Agree.{AreRuns, IsSettledKnown}

-- an input is set to a known value of its width
pub record SetsInput (d : Flat) (setting : Setting) : Type 0 where
  pub input : IsTrue (is_input d setting.input)
  pub can_be : IsSetting d setting

-- whether an input is set
abbrev pub sets : ℕ → List Setting → Bool
sets i all = list_any (λ setting. setting.input == i) all

-- what inputs are after all steps
abbrev pub given_by : Values → List (List Setting) → Values
given_by given [] = given
given_by given (step ∷ steps) = given_by (given_after given step) steps

-- an input that is a reset has the level at which it is active
abbrev pub IsAtLevel : Flat → Values → Guard → Type 0
IsAtLevel d given guard =
    (c : ℕ) → IsTrue (is_input d c) → IsReached d c guard.item.signal → bit given c 0 ≡ level guard.item.edge

-- a bring-up: at least one step from power-up on, each of which sets any inputs, clocks, resets and gates among them. At the
-- end every input was set, each reset is active, and each gate of a latch is open
pub record IsBringUp (d : Flat) (chains : ℕ → Chain) (steps : List (List Setting)) : Type 0 where
  pub some_step : steps ≢ []
  pub settings : All (All (SetsInput d)) steps
  pub all_set : (i : ℕ) → IsTrue (is_input d i) → IsTrue (list_any (sets i) steps)
  pub resets :
      (p : ℕ) (events : List Watched) (body : Actions) → doing_at d p ≡ Some (Edge' events body) →
      All (IsAtLevel d (given_by (power_up d).value steps)) (chains p).resets
  pub gates :
      (p : ℕ) (gate : Gate) → IsAdmitted d p gate →
      bit (given_by (power_up d).value steps) gate.input 0 ≡ gate.opens

-- each process that may write a register has an asynchronous reset
abbrev pub HaveResets : Flat → (ℕ → Chain) → Type 0
HaveResets d chains =
    (i k : ℕ) → (register : IsRegisterBit d i k) → (chains register.process).resets ≢ []

-- the last of states that follow from one
abbrev pub last : State → List State → State
last s [] = s
last s (t ∷ states) = last t states

-- every bring-up ends in a settled state of known values, whichever way it runs
pub record BringsUp (d : Flat) (chains : ℕ → Chain) (f : Fill) : Type 0 where
  pub settles :
      (steps : List (List Setting)) → IsBringUp d chains steps →
      (states : List State) → AreRuns d (power_up d) steps states →
      (n : Values) × IsSettledKnown d chains f (last (power_up d) states) n
