-- What an event does to a state: the writes that it makes, whom they wake, and what is left to be done (IEEE 1364-2001
-- sections 5.2, 5.3 and 5.6).
use Rattle.std.specs.Prelude.{◌≡◌, ℕ, ◌==◌, Bool, false, ◌||◌, if◌then◌else◌, List, [], ◌∷◌, ◌++◌, Option, None, Some, unwrap_or}
use Rattle.rtl_bits.specs.declared.Bit.{Bit}
use Rattle.rtl_flat.specs.Process.{Piece, Doing, Assign, Comb, Edge'}
use Rattle.event_model.specs.Bodies.{Made, Now, Later, body_made}
use Rattle.event_model.specs.Queue.{State, Event, Input, Evaluate, Update, Run, Delayed, Activate, doing_at, drive_now, hears, net_writes, resolved}
use Rattle.rtl_flat.specs.Flats.{Flat, widths}
use Rattle.event_model.specs.Writes.{Values, Write, all_written, put, written}

-- ---- writes

-- the writes among what a body makes
abbrev pub nows : List Made → List Write
nows [] = []
nows (Now w ∷ others) = w ∷ nows others
nows (Later us ∷ others) = nows others

-- the updates among it
abbrev pub laters : List Made → List (List Write)
laters [] = []
laters (Now w ∷ others) = laters others
laters (Later us ∷ others) = us ∷ laters others

-- whether a process hears one of some writes that are made in their order
abbrev pub is_heard : Flat → Values → List Write → Option Doing → Bool
is_heard d v [] does = false
is_heard d v (w ∷ us) does =
    hears (widths d) w.signal (v w.signal) (written v w w.signal) does || is_heard d (written v w) us does

-- what a body makes from given values, where a process has one
abbrev pub run_made : Flat → Values → Option Doing → List Made
run_made d v (Some (Assign target e)) = []
run_made d v (Some (Comb list body)) = body_made (widths d) v body
run_made d v (Some (Edge' events body)) = body_made (widths d) v body
run_made d v None = []

-- the write by which an input takes what is offered to it
abbrev pub input_writes : ℕ → Option (List Bit) → List Write
input_writes i None = []
input_writes i (Some bits) = record { signal = i; at = 0; bits = bits } ∷ []

-- the writes by which nets follow a driver that takes its pending value
abbrev pub drive_writes : Flat → (ℕ → List Bit) → ℕ → List Piece → Option (List Bit) → List Write
drive_writes d driver p target None = []
drive_writes d driver p target (Some bits) =
    net_writes (widths d) (resolved d (put driver p bits)) target

abbrev pub update_writes : Flat → State → ℕ → Option Doing → List Write
update_writes d s p (Some (Assign target e)) = drive_writes d s.driver p target (s.pending p)
update_writes d s p (Some (Comb list body)) = []
update_writes d s p (Some (Edge' events body)) = []
update_writes d s p None = []

-- the writes of the first of some updates
abbrev pub first_update : List (List Write) → List Write
first_update [] = []
first_update (us ∷ others) = us

-- the writes that an event makes, in their order
abbrev pub event_writes : Flat → State → Event → List Write
event_writes d s (Input i) = input_writes i (s.offered i)
event_writes d s (Evaluate p) = []
event_writes d s (Update p) = update_writes d s p (doing_at d p)
event_writes d s (Run p) = nows (run_made d s.value (doing_at d p))
event_writes d s Delayed = first_update s.activated
event_writes d s Activate = []

-- ---- whose event it is

-- the input whose offered value is taken
abbrev pub takes : Event → ℕ → Bool
takes (Input i) j = j == i
takes (Evaluate p) j = false
takes (Update p) j = false
takes (Run p) j = false
takes Delayed j = false
takes Activate j = false

-- the process that evaluates its expression
abbrev pub evaluates : Event → ℕ → Bool
evaluates (Input i) q = false
evaluates (Evaluate p) q = q == p
evaluates (Update p) q = false
evaluates (Run p) q = false
evaluates Delayed q = false
evaluates Activate q = false

-- the process whose driver takes its pending value
abbrev pub updates : Event → ℕ → Bool
updates (Input i) q = false
updates (Evaluate p) q = false
updates (Update p) q = q == p
updates (Run p) q = false
updates Delayed q = false
updates Activate q = false

-- the process whose body runs
abbrev pub runs : Event → ℕ → Bool
runs (Input i) q = false
runs (Evaluate p) q = false
runs (Update p) q = false
runs (Run p) q = q == p
runs Delayed q = false
runs Activate q = false

-- ---- the state after it

-- the updates behind the first
abbrev pub other_updates : List (List Write) → List (List Write)
other_updates [] = []
other_updates (us ∷ others) = others

-- the updates that are active after an event
abbrev pub activated_after : State → Event → List (List Write)
activated_after s (Input i) = s.activated
activated_after s (Evaluate p) = s.activated
activated_after s (Update p) = s.activated
activated_after s (Run p) = s.activated
activated_after s Delayed = other_updates s.activated
activated_after s Activate = s.delayed

-- the updates that aren't active yet after it
abbrev pub delayed_after : Flat → State → Event → List (List Write)
delayed_after d s (Input i) = s.delayed
delayed_after d s (Evaluate p) = s.delayed
delayed_after d s (Update p) = s.delayed
delayed_after d s (Run p) = s.delayed ++ laters (run_made d s.value (doing_at d p))
delayed_after d s Delayed = s.delayed
delayed_after d s Activate = []

-- what an event does that makes some writes and leads to a state
pub record IsEffect (d : Flat) (s : State) (event : Event) (us : List Write) (t : State) : Type 0 where
  -- values are written
  pub value : t.value ≡ all_written s.value us
  -- whose event it is waits, and who hears a write is woken
  pub woken :
      (q : ℕ) →
      t.woken q ≡ (if evaluates event q || runs event q then false else (s.woken q || is_heard d s.value us (doing_at d q)))
  -- an input takes what is offered to it
  pub offered : (i : ℕ) → t.offered i ≡ (if takes event i then None else s.offered i)
  -- a driver takes what is pending for it
  pub driver :
      (q : ℕ) →
      t.driver q ≡ (if updates event q then unwrap_or (s.pending q) (s.driver q) else s.driver q)
  -- an evaluation makes its value the pending one
  pub pending :
      (q : ℕ) →
      t.pending q ≡ (if evaluates event q then Some (drive_now s.value (doing_at d q)) else if updates event q then None else s.pending q)
  -- an activated update is made, or all become active
  pub activated : t.activated ≡ activated_after s event
  -- a body adds to those that aren't active
  pub delayed : t.delayed ≡ delayed_after d s event
