-- Data beside a turn of a clock or a reset, as a test bench gives them by nonblocking assignments: it asks for its updates
-- while active events are left, so they become active together with the design's, where no active event is left, and are made
-- among these in any order (IEEE 1364-2001 sections 5.3 and 5.4).
-- Worked examples: crates/sign_cycles/proofs/BesideExample.antt.
use Rattle.std.specs.Prelude.{◌≡◌, ◌≢◌, ℕ, List, [], ◌∷◌, ◌++◌, ⊤}
use Rattle.std.specs.List.{All}
use Rattle.rtl_bits.specs.declared.Bit.{Bit}
use Rattle.event_model.specs.Queue.{State, Event, Activate, CanRun, HasNoActive, IsThere, after, offer, run}
use Rattle.rtl_flat.specs.Flats.{Flat}
use Rattle.event_edges.specs.Quiet.{SetData}

-- ---- moves

-- what comes next: an event of the design is taken, or the bench gives values to inputs (section 5.4.2)
pub data Move : Type 0 where
  Take : (event : Event) → Move
  Give : (step : List (ℕ × List Bit)) → Move

abbrev pub moved : Flat → State → Move → State
moved d s (Take event) = after d s event
moved d s (Give step) = offer s step

-- the event is there to be taken, and values are given to data inputs alone
abbrev pub IsMove : Flat → State → Move → Type 0
IsMove d s (Take event) = IsThere d s event
IsMove d s (Give step) = SetData d step

-- the state after moves in their order
abbrev pub move_all : Flat → State → List Move → State
move_all d s [] = s
move_all d s (move ∷ moves) = move_all d (moved d s move) moves

-- each of them can be made when it comes
abbrev pub CanMove : Flat → State → List Move → Type 0
CanMove d s [] = ⊤
CanMove d s (move ∷ moves) = IsMove d s move × CanMove d (moved d s move) moves

-- all that is given, in its order
abbrev pub gifts : List Move → List (ℕ × List Bit)
gifts [] = []
gifts (Take event ∷ moves) = gifts moves
gifts (Give step ∷ moves) = step ++ gifts moves

-- ---- beside a turn

-- all nonblocking updates have become active, where there are any of the design's (section 5.3)
pub data IsActivated (d : Flat) (s : State) : State → Type 0 where
  NoneThere : s.delayed ≡ [] → IsActivated d s s
  Activated : s.delayed ≢ [] → IsActivated d s (after d s Activate)

-- a way from one state to another on which the bench gives data: events up to where no active event is left, none of which
-- makes updates active; then this is done; and from there on events and gifts of data in any order, any of them later than
-- others
pub record IsBeside (d : Flat) (s t : State) : Type 0 where
  pub early : List Event
  pub can_early : CanRun d s early
  pub before : All (λ event. event ≢ Activate) early
  pub still : HasNoActive d (run d s early)
  pub next : State
  pub activated : IsActivated d (run d s early) next
  pub late : List Move
  pub can_late : CanMove d next late
  pub leads : move_all d next late ≡ t
