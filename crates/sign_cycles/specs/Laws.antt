-- From one step to lists of steps.
use Rattle.std.specs.Prelude.{◌≡◌, ℕ, List, [], ◌∷◌}
use Rattle.std.specs.List.{All}
use Rattle.event_model.specs.Queue.{State}
use Rattle.rtl_flat.specs.Flats.{Flat, widths}
use Rattle.event_model.specs.Writes.{Values}
use Rattle.net_model.specs.declared.fill.Fill.{Fill}
use Rattle.net_model.specs.Cycle.{Chain, Data, IsCycle, Setting, Step, Turn, register_bit, settings}
use Rattle.net_model.specs.Control.{IsClockOrReset}
use Rattle.net_model.specs.Lawful.{IsLawfulStep, SetsData, TurnsControl}
use Rattle.net_model.specs.Numbers.{AreNumbers, bit}
use Rattle.net_model.specs.Solution.{IsRegisterBit}
use Rattle.net_rest.specs.Rest.{numbers_of}
use Rattle.sign_cycles.specs.PowerUp.{CanAllWake}
use Rattle.sign_cycles.specs.Round.{IsSettled}
use Rattle.sign_cycles.specs.Agree.{AreSame, IsNext, IsSettledKnown}
use Rattle.sign_cycles.specs.BringUp.{BringsUp, HaveResets}
use Rattle.sign_cycles.specs.Formed.{IsCleanClocked}

-- how a state follows numbers by one step: it is settled at numbers that follow
pub record IsFollowed (d : Flat) (chains : ℕ → Chain) (f : Fill) (n : Values) (step : Step) (t : State) : Type 0 where
  pub next : Values
  pub follows : IsCycle d chains f n step next
  pub settled : IsSettledKnown d chains f t next

-- each lawful step from a settled state leads to such states alone
abbrev pub StepsFollow : Flat → (ℕ → Chain) → Fill → Type 0
StepsFollow d chains f =
    (s : State) (n : Values) → IsSettledKnown d chains f s n →
    (step : Step) → IsLawfulStep d n step →
    (t : State) → IsNext d s (settings step) t → IsFollowed d chains f n step t

-- a step gives the same numbers from the same ones, whatever temporaries have
abbrev pub StepsAreAlone : Flat → (ℕ → Chain) → Fill → Type 0
StepsAreAlone d chains f =
    (n m : Values) → AreNumbers d n → AreNumbers d m → AreSame d n m →
    (step : Step) (next other : Values) → IsCycle d chains f n step next → IsCycle d chains f m step other →
    AreSame d next other

-- how a state follows numbers by a step of data, whatever resets are active
pub record IsDataFollowed (d : Flat) (chains : ℕ → Chain) (f : Fill) (n : Values) (all : List Setting) (t : State) : Type 0 where
  pub next : Values
  pub follows : IsCycle d chains f n (Data all) next
  pub settled : IsSettled d f t next

-- each step of data from a settled state leads to such states alone
abbrev pub DataFollows : Flat → (ℕ → Chain) → Fill → Type 0
DataFollows d chains f =
    (s : State) (n : Values) → IsSettled d f s n →
    (all : List Setting) → All (SetsData d) all →
    (t : State) → IsNext d s all t → IsDataFollowed d chains f n all t

-- in a settled state whose registers keep their resets they still do so after it
abbrev pub DataStaysKnown : Flat → (ℕ → Chain) → Fill → Type 0
DataStaysKnown d chains f =
    (s : State) (n : Values) → IsSettledKnown d chains f s n →
    (all : List Setting) → All (SetsData d) all →
    (t : State) → IsNext d s all t → IsFollowed d chains f n (Data all) t

-- at rest after a step of one clock or reset each register bit has what its process gives to it, from the numbers before
-- the step and from its clock and its resets after it
abbrev pub RegistersAre : Flat → (ℕ → Chain) → Fill → Type 0
RegistersAre d chains f =
    (s : State) (n : Values) → IsSettledKnown d chains f s n →
    (setting : Setting) → IsClockOrReset d setting.input → TurnsControl d n setting →
    (t : State) → IsNext d s (setting ∷ []) t →
    (i k : ℕ) (register : IsRegisterBit d i k) →
    bit t.value i k ≡ register_bit (widths d) f n (numbers_of d f t.value) (chains register.process) i k

-- so each such step leads to settled states alone, at numbers that follow
abbrev pub TurnsFollow : Flat → (ℕ → Chain) → Fill → Type 0
TurnsFollow d chains f =
    (s : State) (n : Values) → IsSettledKnown d chains f s n →
    (setting : Setting) → IsClockOrReset d setting.input → TurnsControl d n setting →
    (t : State) → IsNext d s (setting ∷ []) t → IsFollowed d chains f n (Turn setting) t

-- a state that is settled for one fill is settled for the other, at the numbers that its own values have. Those may differ
-- where nothing writes, in bits of temporaries that no process uses
abbrev pub SettlesBoth : Flat → Type 0
SettlesBoth d =
    (f g : Fill) (s : State) (n : Values) → IsSettled d f s n → IsSettled d g s (numbers_of d g s.value)

-- with registers whose resets hold, too
abbrev pub KnownForBoth : Flat → (ℕ → Chain) → Type 0
KnownForBoth d chains =
    (f g : Fill) (s : State) (n : Values) →
    IsSettledKnown d chains f s n → IsSettledKnown d chains g s (numbers_of d g s.value)

-- every bring-up of a clean design ends in a settled state, where each of its blocks without edges can be woken, and each
-- of its registers has a reset
abbrev pub BringsUpClean : Flat → (ℕ → Chain) → (ℕ → ℕ) → Type 0
BringsUpClean d chains level =
    IsCleanClocked d chains level → CanAllWake d → HaveResets d chains → (f : Fill) → BringsUp d chains f
