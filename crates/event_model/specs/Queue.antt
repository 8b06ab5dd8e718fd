-- The event queue of IEEE 1364-2001 clause 5: a state, the events on it, and runs of events in any order.
-- Worked examples: proofs/Example.antt.
use Rattle.std.specs.Prelude.{◌≡◌, ◌≢◌, ℕ, ◌+◌, List, [], ◌∷◌, ◌++◌, map, replicate, Option, None, Some, IsSome, Bool, true, false, not, ◌&&◌, ◌||◌, IsTrue, ⊤}
use Rattle.std.specs.List.{slice_get, list_any}
use Rattle.rtl_bits.specs.declared.Bit.{Bit}
use Rattle.rtl_bits.specs.declared.Bit.TheVariants.{X, Z}
use Rattle.rtl_bits.specs.declared.Edge.{Edge}
use Rattle.rtl_bits.specs.declared.Edge.TheVariants.{No, Pos, Neg}
use Rattle.rtl_bits.specs.Bit.{edge}
use Rattle.rtl_bits.specs.Bits.{same_bit, selected, zip_with}
use Rattle.rtl_bits.specs.Bit.{resolve_bit}
use Rattle.rtl_flat.specs.declared.design.Design.{Design}
use Rattle.rtl_flat.specs.declared.signal.Signal.{Signal}
use Rattle.rtl_flat.specs.declared.signal.Kind.{Kind}
use Rattle.rtl_flat.specs.declared.signal.Kind.TheVariants.{TopInput, Net, Var}
use Rattle.rtl_flat.specs.Flats.{Flat, widths}
use Rattle.rtl_flat.specs.Flows.{reads, may_select}
use Rattle.rtl_flat.specs.PathSets.{listed}
use Rattle.rtl_flat.specs.Process.{Piece, Watched, Doing, Assign, Comb, Edge', Task, task}
use Rattle.rtl_flat.specs.Signs.{width_in}
use Rattle.rtl_flat.specs.Sizes.{width_of}
use Rattle.rtl_flat.specs.Value.{value}
use Rattle.event_model.specs.Writes.{Values, Write, Span, put, written, span_of, write_at, no_drive, driven}
use Rattle.event_model.specs.Bodies.{Made, Now, Later, body_made}

-- what the process with a number does, where there is one
abbrev pub doing_of : Option Task → Option Doing
doing_of None = None
doing_of (Some task) = Some task.does

abbrev pub doing_at : Flat → ℕ → Option Doing
doing_at d p = doing_of (slice_get d.tasks p)

-- ---- what wakes processes

abbrev pub is_pos : Edge → Bool
is_pos Pos = true
is_pos _ = false

abbrev pub is_neg : Edge → Bool
is_neg Neg = true
is_neg _ = false

-- whether a bit's change from an old value to a new one is an event of a kind: any change; a posedge; a negedge (section 9.7.2)
abbrev pub happens : Edge → Bit → Bit → Bool
happens No old new = not (same_bit old new)
happens Pos old new = is_pos (edge old new)
happens Neg old new = is_neg (edge old new)

-- whether an item of a list hears a change of bit k of signal s
abbrev pub item_hears : (ℕ → ℕ) → ℕ → ℕ → Bit → Bit → Watched → Bool
item_hears ws s k old new item =
    may_select ws item.signal item.selection s k && happens item.edge old new

-- whether a process is sensitive to a change of bit k of signal s: a continuous assignment to what its expression reads
-- (section 5.6.1), `@*` to what its body reads (section 9.7.5), a list to its items (section 9.7.4)
abbrev pub listens : (ℕ → ℕ) → ℕ → ℕ → Bit → Bit → Doing → Bool
listens ws s k old new (Assign target e) = reads ws e s k && happens No old new
listens ws s k old new (Comb None body) = listed ws (Comb None body) s k && happens No old new
listens ws s k old new (Comb (Some items) body) = list_any (item_hears ws s k old new) items
listens ws s k old new (Edge' events body) = list_any (item_hears ws s k old new) events

-- whether it is sensitive to a change among the bits of signal s from place k on
abbrev pub hears_from : (ℕ → ℕ) → ℕ → ℕ → List Bit → List Bit → Doing → Bool
hears_from ws s k (a ∷ old) (b ∷ new) does =
    listens ws s k a b does || hears_from ws s (k + 1) old new does
hears_from ws s k _ _ does = false

-- whether the process with a number, if there is one, is sensitive to a change of signal s
abbrev pub hears : (ℕ → ℕ) → ℕ → List Bit → List Bit → Option Doing → Bool
hears ws s old new None = false
hears ws s old new (Some does) = hears_from ws s 0 old new does

-- ---- the state

-- the event queue and the values that it works on (sections 5.2 and 5.3)
pub record State : Type 0 where
  -- the value of each signal
  pub value : Values
  -- whether a process is woken, so that its evaluation is an active event; else it waits
  pub woken : ℕ → Bool
  -- the value that a continuous assignment drives its target with
  pub driver : ℕ → List Bit
  -- the update of a process's driver that is an active event, one at most
  pub pending : ℕ → Option (List Bit)
  -- the update of a top input that is an active event, one at most
  pub offered : ℕ → Option (List Bit)
  -- the nonblocking assign updates that are active events, each with its writes in order
  pub activated : List (List Write)
  -- the nonblocking assign updates that are not active yet
  pub delayed : List (List Write)

-- the state after one write, which wakes the processes that are sensitive to it (section 5.2)
abbrev pub write : Flat → State → Write → State
write d s w =
    record s {
      value = written s.value w;
      woken = λ p. s.woken p || hears (widths d) w.signal (s.value w.signal) (written s.value w w.signal) (doing_at d p);
    }

-- the state after writes in their order
abbrev pub write_all : Flat → State → List Write → State
write_all d s [] = s
write_all d s (w ∷ ws) = write_all d (write d s w) ws

-- ---- drivers

-- a process beside what others give to a net: z yields to the other, equal values stand, all else is x (section 3.7.1)
abbrev pub drive_with : (ℕ → ℕ) → Doing → List Bit → ℕ → List Bit → List Bit
drive_with ws (Assign target e) bits net others =
    zip_with resolve_bit (driven ws target bits net) others
drive_with ws (Comb list body) bits net others = others
drive_with ws (Edge' events body) bits net others = others

-- what the drivers of a net give together, the processes numbered from a number on
abbrev pub resolved_from : (ℕ → ℕ) → ℕ → List Task → (ℕ → List Bit) → Values
resolved_from ws number [] driver net = no_drive ws net
resolved_from ws number (one ∷ others) driver net =
    drive_with ws one.does (driver number) net (resolved_from ws (number + 1) others driver net)

abbrev pub resolved : Flat → (ℕ → List Bit) → Values
resolved d driver = resolved_from (widths d) 0 d.tasks driver

-- the bits of a span, where there is one
abbrev pub bits_in : Option Span → List Bit → List Bit
bits_in None bits = []
bits_in (Some span) bits = selected span.at span.count bits

-- the writes by which the nets of a target take the bits that are given to them
abbrev pub net_writes : (ℕ → ℕ) → Values → List Piece → List Write
net_writes ws given [] = []
net_writes ws given (piece ∷ others) =
    write_at piece.signal (span_of ws (no_drive ws) piece.signal piece.selection) (bits_in (span_of ws (no_drive ws) piece.signal piece.selection) (given piece.signal)) ++ net_writes ws given others

-- ---- events

-- an event that may be taken (sections 5.2 and 5.3)
pub data Event : Type 0 where
  -- a top input takes the value that is offered to it
  Input : (signal : ℕ) → Event
  -- a continuous assignment evaluates its expression
  Evaluate : (process : ℕ) → Event
  -- the driver of a continuous assignment takes its pending value, and its nets follow
  Update : (process : ℕ) → Event
  -- the body of an `always` runs, from its event control to its next wait
  Run : (process : ℕ) → Event
  -- the first of the activated nonblocking updates is made
  Delayed : Event
  -- all nonblocking updates become active
  Activate : Event

-- a top input takes the value that is offered to it
abbrev pub after_input : Flat → State → ℕ → Option (List Bit) → State
after_input d s i None = s
after_input d s i (Some bits) =
    write d (record s { offered = put s.offered i None }) (record { signal = i; at = 0; bits = bits })

-- an evaluation makes the expression's value the pending one, in place of an earlier one, and the process waits
-- (section 5.6.1)
abbrev pub after_evaluate : State → ℕ → Option Doing → State
after_evaluate s p (Some (Assign target e)) =
    record s { pending = put s.pending p (Some (value s.value e)); woken = put s.woken p false }
after_evaluate s p (Some (Comb list body)) = s
after_evaluate s p (Some (Edge' events body)) = s
after_evaluate s p None = s

-- a driver takes its pending value, and its nets what all their drivers give (sections 5.6.1 and 3.7.1)
abbrev pub drive : Flat → State → ℕ → List Piece → Option (List Bit) → State
drive d s p target None = s
drive d s p target (Some bits) =
    write_all d (record s { driver = put s.driver p bits; pending = put s.pending p None }) (net_writes (widths d) (resolved d (put s.driver p bits)) target)

abbrev pub after_update : Flat → State → ℕ → Option Doing → State
after_update d s p (Some (Assign target e)) = drive d s p target (s.pending p)
after_update d s p (Some (Comb list body)) = s
after_update d s p (Some (Edge' events body)) = s
after_update d s p None = s

-- what a body makes: a write at once, or an update behind those that aren't active yet (sections 5.6.3 and 5.6.4)
abbrev pub perform : Flat → State → Made → State
perform d s (Now w) = write d s w
perform d s (Later ws) = record s { delayed = s.delayed ++ ws ∷ [] }

abbrev pub perform_all : Flat → State → List Made → State
perform_all d s [] = s
perform_all d s (m ∷ others) = perform_all d (perform d s m) others

-- a process waits again
abbrev pub wait : State → ℕ → State
wait s p = record s { woken = put s.woken p false }

-- a body runs as one event; it isn't waiting meanwhile, so it misses all changes (section 5.2)
abbrev pub after_run : Flat → State → ℕ → Option Doing → State
after_run d s p (Some (Comb list body)) =
    wait (perform_all d s (body_made (widths d) s.value body)) p
after_run d s p (Some (Edge' events body)) =
    wait (perform_all d s (body_made (widths d) s.value body)) p
after_run d s p (Some (Assign target e)) = s
after_run d s p None = s

-- nonblocking updates are made in the order in which they were asked for (sections 5.4.1 and 5.6.4)
abbrev pub after_delayed : Flat → State → List (List Write) → State
after_delayed d s [] = s
after_delayed d s (ws ∷ others) = write_all d (record s { activated = others }) ws

-- the state after an event
abbrev pub after : Flat → State → Event → State
after d s (Input i) = after_input d s i (s.offered i)
after d s (Evaluate p) = after_evaluate s p (doing_at d p)
after d s (Update p) = after_update d s p (doing_at d p)
after d s (Run p) = after_run d s p (doing_at d p)
after d s Delayed = after_delayed d s s.activated
after d s Activate = record s { activated = s.delayed; delayed = [] }

-- ---- runs

-- whether a signal is a top input
abbrev pub is_input_kind : Kind → Bool
is_input_kind TopInput = true
is_input_kind Net = false
is_input_kind Var = false

abbrev pub is_input_of : Option Signal → Bool
is_input_of None = false
is_input_of (Some signal) = is_input_kind signal.kind

abbrev pub is_input : Flat → ℕ → Bool
is_input d i = is_input_of (slice_get d.signals i)

abbrev pub is_assignment : Option Doing → Bool
is_assignment (Some (Assign target e)) = true
is_assignment (Some (Comb list body)) = false
is_assignment (Some (Edge' events body)) = false
is_assignment None = false

abbrev pub is_body : Option Doing → Bool
is_body (Some (Assign target e)) = false
is_body (Some (Comb list body)) = true
is_body (Some (Edge' events body)) = true
is_body None = false

-- no active event is left: nothing is offered, every process waits, nothing is pending, no update is activated
pub record HasNoActive (d : Flat) (s : State) : Type 0 where
  pub inputs : (i : ℕ) → IsTrue (is_input d i) → s.offered i ≡ None
  pub processes : (p : ℕ) → IsSome (doing_at d p) → s.woken p ≡ false
  pub drivers : (p : ℕ) → IsTrue (is_assignment (doing_at d p)) → s.pending p ≡ None
  pub updates : s.activated ≡ []

-- an event is there to be taken; nonblocking updates are activated only where no active event is left (section 5.3)
abbrev pub IsThere : Flat → State → Event → Type 0
IsThere d s (Input i) = IsTrue (is_input d i) × IsSome (s.offered i)
IsThere d s (Evaluate p) = IsTrue (is_assignment (doing_at d p)) × IsTrue (s.woken p)
IsThere d s (Update p) = IsTrue (is_assignment (doing_at d p)) × IsSome (s.pending p)
IsThere d s (Run p) = IsTrue (is_body (doing_at d p)) × IsTrue (s.woken p)
IsThere d s Delayed = s.activated ≢ []
IsThere d s Activate = HasNoActive d s × (s.delayed ≢ [])

-- the state after events in their order: which of those that are there is taken next is free (section 5.4.2)
abbrev pub run : Flat → State → List Event → State
run d s [] = s
run d s (event ∷ events) = run d (after d s event) events

-- each event is there when it is taken
abbrev pub CanRun : Flat → State → List Event → Type 0
CanRun d s [] = ⊤
CanRun d s (event ∷ events) = IsThere d s event × CanRun d (after d s event) events

-- no event is left
pub record IsAtRest (d : Flat) (s : State) : Type 0 where
  pub no_active : HasNoActive d s
  pub no_delayed : s.delayed ≡ []

-- some run leads from one state to another
pub record Reaches (d : Flat) (s t : State) : Type 0 where
  pub events : List Event
  pub can : CanRun d s events
  pub leads : run d s events ≡ t

-- ---- where runs begin

-- the first value of a signal: a net has z (section 3.2.1), a variable x (section 3.2.2), and so has an input, since
-- nothing was given to it
abbrev pub first_bit : Kind → Bit
first_bit TopInput = X
first_bit Net = Z
first_bit Var = X

abbrev pub first_bits : Option Signal → List Bit
first_bits None = []
first_bits (Some signal) = replicate signal.width (first_bit signal.kind)

-- the value that a driver has before its first update: z
abbrev pub first_drive : (ℕ → ℕ) → Option Doing → List Bit
first_drive ws (Some (Assign target e)) = replicate (width_of ws e) Z
first_drive ws (Some (Comb list body)) = []
first_drive ws (Some (Edge' events body)) = []
first_drive ws None = []

-- power-up: continuous assignments are to be evaluated, and every body waits
abbrev pub power_up : Flat → State
power_up d =
    record {
      value = λ i. first_bits (slice_get d.signals i);
      woken = λ p. is_assignment (doing_at d p);
      driver = λ p. first_drive (widths d) (doing_at d p);
      pending = λ p. None;
      offered = λ i. None;
      activated = [];
      delayed = [];
    }

-- the value that a driver has where its assignment is up to date
abbrev pub drive_now : Values → Option Doing → List Bit
drive_now v (Some (Assign target e)) = value v e
drive_now v (Some (Comb list body)) = []
drive_now v (Some (Edge' events body)) = []
drive_now v None = []

-- a state with given values in which nothing is to be done
abbrev pub settled_at : Flat → Values → State
settled_at d v =
    record {
      value = v;
      woken = λ p. false;
      driver = λ p. drive_now v (doing_at d p);
      pending = λ p. None;
      offered = λ i. None;
      activated = [];
      delayed = [];
    }

-- values for inputs, each of which becomes its pending update
abbrev pub offer : State → List (ℕ × List Bit) → State
offer s [] = s
offer s ((i, bits) ∷ others) = offer (record s { offered = put s.offered i (Some bits) }) others
