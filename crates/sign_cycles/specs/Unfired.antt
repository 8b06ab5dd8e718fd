-- Steps in which no clock fires: any inputs but gates are set, each clock and each reset to one value, at any moments of one run.
-- Registers with an active reset have its constant then, and all others what they had (IEEE 1364.1-2002 section 5.2).
-- Worked examples: proofs/UnfiredExample.antt.
use Rattle.std.specs.Prelude.{◌≡◌, ℕ, false, List, [], ◌∷◌, Some, IsTrue, ⊤}
use Rattle.std.specs.List.{All}
use Rattle.rtl_flat.specs.Flows.{body_flow}
use Rattle.rtl_flat.specs.Paths.{MayWrite}
use Rattle.rtl_flat.specs.Process.{Watched, Actions, Edge'}
use Rattle.event_model.specs.Queue.{State, IsAtRest, IsThere, after, doing_at, happens, is_input, offer}
use Rattle.rtl_flat.specs.Flats.{Flat, widths}
use Rattle.event_model.specs.Writes.{Values}
use Rattle.net_model.specs.declared.fill.Fill.{Fill}
use Rattle.net_model.specs.Control.{IsClockOrReset, IsReached}
use Rattle.net_model.specs.Cycle.{Chain, Setting, Step, given_after, register_bit, settings}
use Rattle.net_model.specs.Gates.{IsGateInput}
use Rattle.net_model.specs.Lawful.{AreLawfulSteps}
use Rattle.net_model.specs.Numbers.{bit}
use Rattle.net_model.specs.Solution.{IsLasting, IsSolution}
use Rattle.event_edges.specs.Moves.{Give, Move, Take, gifts, move_all}
use Rattle.sign_cycles.specs.Agree.{AreCycles, AreSame, IsSettledKnown, ShowsAll}
use Rattle.sign_cycles.specs.Beside.{offers}
use Rattle.sign_cycles.specs.BringUp.{SetsInput}

-- ---- what is set

-- a clock or a reset that is set is set to what it is at the end
abbrev pub AreLast : Flat → Values → List Setting → Type 0
AreLast d n all =
    (c : ℕ) → IsClockOrReset d c → All (λ setting. setting.input ≡ c → setting.number ≡ given_after n all c) all

-- no process has an edge of its clock between the numbers before and those at the end
abbrev pub NoClockFires : Flat → (ℕ → Chain) → Values → List Setting → Type 0
NoClockFires d chains n all =
    (p : ℕ) (events : List Watched) (body : Actions) → doing_at d p ≡ Some (Edge' events body) →
    (c : ℕ) → IsClockOrReset d c → IsReached d c (chains p).clock.signal →
    happens (chains p).clock.edge (bit n c 0) (bit (given_after n all) c 0) ≡ false

-- inputs that are no gates are set to known values, and no clock fires
pub record IsUnfiredStep (d : Flat) (chains : ℕ → Chain) (n : Values) (all : List Setting) : Type 0 where
  pub settings : All (SetsInput d) all
  pub last : AreLast d n all
  pub no_clock : NoClockFires d chains n all
  -- a latch that closed beside data could take what they are before or after
  pub ungated : All (λ setting. IsGateInput d setting.input → ⊥) all

-- ---- runs

-- each event is there when it is taken, whatever is given between events
abbrev pub CanCome : Flat → State → List Move → Type 0
CanCome d s [] = ⊤
CanCome d s (Take event ∷ moves) = IsThere d s event × CanCome d (after d s event) moves
CanCome d s (Give step ∷ moves) = CanCome d (offer s step) moves

-- a state to which some moves come to rest, by which just these inputs are set
pub record IsNextMoved (d : Flat) (s : State) (all : List Setting) (t : State) : Type 0 where
  pub moves : List Move
  pub can : CanCome d s moves
  pub gives : gifts moves ≡ offers all
  pub leads : move_all d s moves ≡ t
  pub rest : IsAtRest d t

-- ---- numbers

-- the numbers after inputs were set, several at once: registers are by their resets and clocks as after one that turned
pub record IsCycleAtOnce (d : Flat) (chains : ℕ → Chain) (f : Fill) (old : Values) (all : List Setting) (new : Values) : Type 0 where
  pub inputs : (i : ℕ) → IsTrue (is_input d i) → new i ≡ given_after old all i
  pub registers :
      (p : ℕ) (events : List Watched) (body : Actions) →
      doing_at d p ≡ Some (Edge' events body) →
      (i k : ℕ) → MayWrite (body_flow (widths d) body) i k → IsLasting d i →
      bit new i k ≡ register_bit (widths d) f old new (chains p) i k
  pub rest : IsSolution d f old new new

-- ---- one after another

-- a step sets inputs to what they are at the end
abbrev pub SetsTo : Values → Step → Type 0
SetsTo end step = All (λ setting. setting.number ≡ end setting.input) (settings step)

-- the last of numbers that follow one another
abbrev pub last_of : Values → List Values → Values
last_of n [] = n
last_of n (next ∷ numbers) = last_of next numbers

-- lawful steps by which inputs come one after another to what several at once set them to, and the numbers that follow by them
pub record AreInTurn (d : Flat) (chains : ℕ → Chain) (f : Fill) (n : Values) (all : List Setting) (steps : List Step) (numbers : List Values) : Type 0 where
  pub lawful : AreLawfulSteps d n steps
  pub to : All (SetsTo (given_after n all)) steps
  pub follow : AreCycles d chains f n steps numbers
  pub end : (i : ℕ) → IsTrue (is_input d i) → last_of n numbers i ≡ given_after n all i

-- ---- agreement

-- how a state follows numbers so: it is settled, and shows the numbers that follow
pub record IsFollowedAtOnce (d : Flat) (chains : ℕ → Chain) (f : Fill) (n : Values) (all : List Setting) (t : State) : Type 0 where
  pub next : Values
  pub follows : IsCycleAtOnce d chains f n all next
  -- no others follow
  pub alone : (other : Values) → IsCycleAtOnce d chains f n all other → AreSame d next other
  -- and one after another, in whatever order, the same settings lead to the same numbers
  pub in_turn :
      (steps : List Step) (numbers : List Values) → AreInTurn d chains f n all steps numbers →
      AreSame d (last_of n numbers) next
  pub settled : IsSettledKnown d chains f t next
  pub shows : ShowsAll d t next

-- each step in which no clock fires leads to such states alone, at whatever moments inputs are set, and whichever events are
-- taken
pub record UnfiredAgree (d : Flat) (chains : ℕ → Chain) (f : Fill) : Type 0 where
  pub agrees :
      (s : State) (n : Values) → IsSettledKnown d chains f s n →
      (all : List Setting) → IsUnfiredStep d chains n all →
      (t : State) → IsNextMoved d s all t → IsFollowedAtOnce d chains f n all t
