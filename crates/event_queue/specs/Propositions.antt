-- It serves inner contracts and proofs; no answer of the program is stated by it.
-- What holds of a simulator holds in one way only, as a fact that its type keeps has to.
use Rattle.std.specs.Prelude.{ℕ, List, [], ◌∷◌, Option, None, Some}
use Rattle.std.proofs.Props.{props}
use Rattle.rtl_bits.specs.declared.Bit.{Bit}
use Rattle.rtl_flat.specs.declared.signal.Signal.{Signal}
use Rattle.rtl_flat.specs.Process.{Doing, Assign, Comb, Edge', Task}
use Rattle.event_model.specs.Queue.{State}
use Rattle.rtl_flat.specs.Flats.{Flat, widths}
use Rattle.event_model.specs.Writes.{Span}
use Rattle.event_tables.specs.event_write.declared.fanout.Fanout.{Fanout}
use Rattle.event_tables.specs.event_write.declared.queue_state.QueueState.{QueueState}
use Rattle.event_tables.specs.event_write.Entries.{Entry, IsClosed}
use Rattle.event_tables.specs.event_write.QueueState.{HasWidth, IsFanout, IsInside, IsQueueState, design_of, state}
use Rattle.event_take.specs.Lawful.{IsLawful}
use Rattle.event_queue.specs.declared.costs.Costs.{Costs}
use Rattle.event_queue.specs.Costs.{AreCosts}
use Rattle.event_queue.specs.Holding.{IsSim}

bit_set : IsSet Bit
bit_set = hlevel props

fanout_one : (f : Fanout) → IsProp (IsFanout f)
fanout_one f = hlevel (props, bit_set)

width_one : (ws : ℕ → ℕ) (does : Option Doing) (width : ℕ) → IsProp (HasWidth ws does width)
width_one ws None width = hlevel props
width_one ws (Some (Assign target e)) width = hlevel props
width_one ws (Some (Comb list body)) width = hlevel props
width_one ws (Some (Edge' events body)) width = hlevel props

closed_one : (entries : List Entry) → IsProp (IsClosed entries)
closed_one [] = hlevel props
closed_one (e ∷ []) = hlevel props
closed_one (e ∷ f ∷ es) = closed_one (f ∷ es)

inside_one : (signals : List Signal) (i : ℕ) (span : Option Span) (bits : List Bit) → IsProp (IsInside signals i span bits)
inside_one signals i None bits = hlevel props
inside_one signals i (Some span) bits = hlevel props

queue_one : (d : Flat) (m : QueueState) → IsProp (IsQueueState d m)
queue_one d m =
    hlevel (props, width_one (widths d), closed_one, λ (e : Entry). inside_one d.signals e.signal e.span e.bits)

lawful_one : (d : Flat) (s : State) → IsProp (IsLawful d s)
lawful_one d s = hlevel (props, bit_set)

costs_one : (tasks : List Task) (c : Costs) → IsProp (AreCosts tasks c)
costs_one tasks c = hlevel props

pub sim_one : (f : Fanout) (m : QueueState) (c : Costs) (most rest : ℕ) → IsProp (IsSim f m c most rest)
sim_one f m c most rest =
    hlevel (props, fanout_one f, queue_one (design_of f) m, lawful_one (design_of f) (state m), costs_one (design_of f).tasks c)
