-- What is left of the budget pays for the room and the work of delayed updates.
use Rattle.std.proofs.Common.{◌≡◌, ◌≤◌, ◌<◌, ◌+◌, ◌*◌, ◌∙◌, ℕ, length, Option, None, Some, refl, sym, ap, arith}
use Rattle.rtl_flat.specs.Process.{Doing}
use Rattle.event_model.specs.Policies.{cost, run_cost}
use Rattle.event_model.specs.Queue.{Event, Input, Evaluate, Update, Run, Delayed, Activate, doing_at}
use Rattle.rtl_flat.specs.Flats.{Flat}
use Rattle.event_tables.specs.event_write.declared.queue_state.QueueState.{QueueState}
use Rattle.event_queue.specs.declared.costs.Costs.{Costs}
use Rattle.event_queue.specs.Costs.{AreCosts}
use Rattle.event_queue.specs.Rooms.{IsMadeReady, IsTaken, free, load, room_for}
use Rattle.event_queue.proofs.Costing.{room_at}

pub room_paid : (d : Flat) (costs : Costs) → AreCosts d.tasks costs → (event : Event) → room_for d event ≤ costs.share * cost d event
room_paid d costs are (Input i) = omega arith
room_paid d costs are (Evaluate p) = omega arith
room_paid d costs are (Update p) = omega arith
room_paid d costs are (Run p) = room_at costs.share d.tasks are.share p
room_paid d costs are Delayed = omega arith
room_paid d costs are Activate = omega arith

pub split_share : (share left less paid : ℕ) → less + paid ≡ left → share * left ≡ share * less + share * paid
split_share share left less paid h = ap (λ n. share * n) (sym h) ∙ omega arith

-- there is room for what an event makes
pub has_room : (d : Flat) (costs : Costs) (event : Event) (waiting capacity left less all : ℕ) → AreCosts d.tasks costs → less + cost d event ≡ left → waiting + costs.share * left ≤ all → all ≤ capacity → waiting + room_for d event ≤ capacity
has_room d costs event waiting capacity left less all are paid fits enough =
    let room = room_paid d costs are event in
    let split = split_share costs.share left less (cost d event) paid in
    omega (arith, room, split, fits, enough)

-- the room that is left
pub room_left : (d : Flat) (costs : Costs) (event : Event) (m n o : QueueState) (left less all : ℕ) → AreCosts d.tasks costs → less + cost d event ≡ left → length m.waiting.items + costs.share * left ≤ all → IsTaken (room_for d event) (free event) m n → IsMadeReady n o → length o.waiting.items + costs.share * less ≤ all
room_left d costs event m n o left less all are paid fits taken made =
    let room = room_paid d costs are event in
    let split = split_share costs.share left less (cost d event) paid in
    let few = taken.waiting in
    let fewer = made.waiting in
    omega (arith, room, split, fits, few, fewer)

-- each event that is chosen costs something, or makes an activated update
some_work : (d : Flat) (event : Event) → (event ≡ Activate → ⊥) → 1 ≤ cost d event + free event
some_work d (Input i) h = omega arith
some_work d (Evaluate p) h = omega arith
some_work d (Update p) h = omega arith
some_work d (Run p) h = by_process (doing_at d p)
  where
    by_process : (does : Option Doing) → 1 ≤ run_cost does + 0
    by_process None = omega arith
    by_process (Some does) = omega arith
some_work d Delayed h = omega arith
some_work d Activate h = absurd (h refl)

-- so the work that may be left becomes less
pub less_work : (d : Flat) (costs : Costs) (event : Event) (m n o : QueueState) (left less : ℕ) → AreCosts d.tasks costs → (event ≡ Activate → ⊥) → less + cost d event ≡ left → IsTaken (room_for d event) (free event) m n → IsMadeReady n o → 2 * (costs.share * less) + less + load o < 2 * (costs.share * left) + left + load m
less_work d costs event m n o left less are chosen paid taken made =
    let room = room_paid d costs are event in
    let split = split_share costs.share left less (cost d event) paid in
    let some = some_work d event chosen in
    let before = taken.load in
    let behind = made.load in
    omega (arith, room, split, paid, some, before, behind)
