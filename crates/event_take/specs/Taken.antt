-- It serves inner contracts and proofs; no answer of the program is stated by it.
-- The event that a choice is.
use Rattle.std.specs.Prelude.{◌≡◌, ◌<◌, ℕ, true, Option, None, length, slice_index_or}
use Rattle.rank_set.specs.Ranks.{flag}
use Rattle.event_model.specs.Queue.{Event, Input, Evaluate, Update, Run, Delayed}
use Rattle.rtl_flat.specs.Flats.{Flat}
use Rattle.event_write.specs.declared.queue_state.QueueState.{QueueState}
use Rattle.event_take.specs.declared.choice.Choice.{Choice}
use Rattle.event_take.specs.declared.choice.Choice.TheVariants as choice

abbrev pub event_of : Choice → Event
event_of (choice.Input signal) = Input signal.0
event_of (choice.Evaluate process) = Evaluate process.0
event_of (choice.Update process) = Update process.0
event_of (choice.Run process) = Run process.0
event_of choice.Delayed = Delayed

-- whether queue have what a choice takes: an offered value, a process, a pending value, an activated update
abbrev pub IsAble : Flat → QueueState → Choice → Type 0
IsAble d m (choice.Input signal) = flag m.offered signal.0 ≡ true
IsAble d m (choice.Evaluate process) = process.0 < length d.tasks
IsAble d m (choice.Update process) = flag m.pending process.0 ≡ true
IsAble d m (choice.Run process) = process.0 < length d.tasks
IsAble d m choice.Delayed = m.next < length m.active.items

-- the level of a process
abbrev pub level_in : QueueState → ℕ → Option ℕ
level_in m p = slice_index_or m.woken.levels p None
