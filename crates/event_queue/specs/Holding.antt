-- It serves inner contracts and proofs; no answer of the program is stated by it.
-- What holds of each simulator.
use Rattle.std.specs.Prelude.{◌≡◌, ◌≤◌, ◌+◌, ◌*◌, ℕ, length, vec_capacity}
use Rattle.event_model.specs.Policies.{budget}
use Rattle.event_tables.specs.event_write.declared.fanout.Fanout.{Fanout}
use Rattle.event_tables.specs.event_write.declared.queue_state.QueueState.{QueueState}
use Rattle.event_tables.specs.event_write.QueueState.{IsFanout, IsQueueState, design_of, state}
use Rattle.event_take.specs.Lawful.{IsLawful}
use Rattle.event_queue.specs.declared.costs.Costs.{Costs}
use Rattle.event_queue.specs.Costs.{AreCosts}

-- its tables are those of its design, its queue are lawful, and the rest of its budget pays for the room that it has for
-- prepared writes
pub record IsSim (f : Fanout) (m : QueueState) (c : Costs) (most rest : ℕ) : Type 0 where
  pub fanout : IsFanout f
  pub queue : IsQueueState (design_of f) m
  pub lawful : IsLawful (design_of f) (state m)
  pub costs : AreCosts (design_of f).tasks c
  pub budget : most ≡ budget (design_of f)
  pub left : rest ≤ most
  pub waiting : length m.waiting.items + c.share * rest ≤ c.share * most
  pub waiting_room : c.share * most ≤ vec_capacity m.waiting
  pub active_room : c.share * most ≤ vec_capacity m.active
  pub scratch : 128 ≤ vec_capacity m.scratch
