-- Settled states, and rounds: a step that sets inputs, and a run that comes to rest.
use Rattle.std.specs.Prelude.{◌≡◌, ℕ, true, false, List, [], ◌∷◌, length, Option, Some, IsTrue, ⊤}
use Rattle.rtl_bits.specs.declared.Bit.{Bit}
use Rattle.rtl_bits.specs.Bits.{has_unknown}
use Rattle.rtl_flat.specs.Expression.{Tree}
use Rattle.rtl_flat.specs.Flows.{may_target}
use Rattle.rtl_flat.specs.Process.{Actions, Assign, Comb, Edge', Piece, Watched}
use Rattle.rtl_flat.specs.Value.{value}
use Rattle.event_model.specs.Queue.{State, Event, CanRun, IsAtRest, doing_at, is_input, offer, run}
use Rattle.rtl_flat.specs.Flats.{Flat, widths}
use Rattle.event_model.specs.Traces.{FollowsPath}
use Rattle.event_model.specs.Writes.{Values, driven}
use Rattle.net_rest.specs.event_laws.Steady.{HaveWidths}
use Rattle.net_model.specs.declared.fill.Fill.{Fill}
use Rattle.net_model.specs.Gates.{Gate, IsAdmitted}
use Rattle.net_model.specs.Numbers.{AreNumbers, bit}
use Rattle.net_model.specs.Solution.{IsSolution}
use Rattle.net_rest.specs.event_runs.Nets.{given_with}
use Rattle.net_rest.specs.event_runs.Plain.{IsConsistent}
use Rattle.net_rest.specs.event_runs.Writers.{IsOrderly}
use Rattle.net_rest.specs.Rest.{AreAlike, AreGivenAlike, AreHeld}

-- ---- settled states

-- a state at rest that shows numbers which solve the equations
pub record IsSettled (d : Flat) (f : Fill) (s : State) (n : Values) : Type 0 where
  pub rest : IsAtRest d s
  pub wide : HaveWidths d s.value
  -- each bit is known and the number's, unless it is a temporary's
  pub shows : AreAlike d s.value n
  -- each driver has the value of its expression
  pub drivers :
      (p : ℕ) (target : List Piece) (e : Tree) →
      doing_at d p ≡ Some (Assign target e) → s.driver p ≡ value s.value e
  -- where nothing changes, latches and registers keep what they have
  pub solution : IsSolution d f n n n

-- ---- rounds

-- values that are offered are known, each with as many bits as its signal
abbrev pub AreSettings : Flat → List (ℕ × List Bit) → Type 0
AreSettings d [] = ⊤
AreSettings d ((i, bits) ∷ others) = ((length bits ≡ widths d i) × (has_unknown bits ≡ false)) × AreSettings d others

-- a step, and the events that are taken after it
pub record Round : Type 0 where
  pub step : List (ℕ × List Bit)
  pub events : List Event

abbrev pub after_round : Flat → State → Round → State
after_round d s round = run d (offer s round.step) round.events

-- a round that can be
pub record IsRound (d : Flat) (s : State) (round : Round) : Type 0 where
  pub settings : AreSettings d round.step
  pub can : CanRun d (offer s round.step) round.events

-- a state to which a round came to rest, whatever registers and closed latches are: inputs as given, and each process without edges agrees
-- with the bits that it may write
pub record IsArrived (d : Flat) (given : Values) (t : State) : Type 0 where
  pub orderly : IsOrderly d t
  pub rest : IsAtRest d t
  pub inputs : (i : ℕ) → IsTrue (is_input d i) → t.value i ≡ given i
  pub drivers :
      (p : ℕ) (target : List Piece) (e : Tree) →
      doing_at d p ≡ Some (Assign target e) → t.driver p ≡ value t.value e
  pub driven :
      (p : ℕ) (target : List Piece) (e : Tree) →
      doing_at d p ≡ Some (Assign target e) →
      (i k : ℕ) → may_target (widths d) target i k ≡ true →
      bit t.value i k ≡ bit (driven (widths d) target (value t.value e)) i k
  pub consistent :
      (p : ℕ) (list : Option (List Watched)) (body : Actions) →
      doing_at d p ≡ Some (Comb list body) →
      FollowsPath (widths d) t.value body → IsConsistent d t.value body

-- how a state follows numbers: it shows a solution, there is no other, and it is settled
pub record IsFollowed (d : Flat) (f : Fill) (held given : Values) (t : State) (next : Values) : Type 0 where
  pub solution : IsSolution d f held given next
  -- any solution that is given alike is alike, whatever its fill and whatever open latches had
  pub alone :
      (g : Fill) (held' given' m : Values) →
      AreNumbers d held' → AreHeld d held' given' → AreGivenAlike d given given' →
      IsSolution d g held' given' m → AreAlike d next m
  pub shows : AreAlike d t.value next
  pub settled : IsSettled d f t next

-- ---- designs without clocks and latches

abbrev pub HasNoClock : Flat → Type 0
HasNoClock d = (p : ℕ) (events : List Watched) (body : Actions) → doing_at d p ≡ Some (Edge' events body) → ⊥

abbrev pub HasNoLatch : Flat → Type 0
HasNoLatch d = (p : ℕ) (gate : Gate) → IsAdmitted d p gate → ⊥

-- after each of a list of rounds that come to rest, the state shows the one solution
abbrev pub Follows : Flat → Fill → State → Values → List Round → Type 0
Follows d f s n [] = ⊤
Follows d f s n (round ∷ rounds) =
    IsRound d s round → IsAtRest d (after_round d s round) →
    (next : Values) × IsFollowed d f n (given_with n round.step) (after_round d s round) next × Follows d f (after_round d s round) next rounds
