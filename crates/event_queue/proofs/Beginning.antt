-- A simulator at its begin.
use Rattle.std.proofs.Common.{◌≡◌, ◌≤◌, ◌<◌, ◌*◌, ◌∙◌, ℕ, List, length, map, Option, None, sym, ap, subst, arith}
use Rattle.std.specs.Prelude.{slice_index_or}
use Rattle.std.proofs.lemmas.List.{length-map}
use Rattle.std.proofs.lemmas.Nat.{mul-le}
use Rattle.rtl_flat.specs.declared.design.Design.{Design}
use Rattle.rtl_flat.specs.Levels.{IsLevel}
use Rattle.rtl_flat.specs.Process.{task}
use Rattle.rtl_flat.specs.Value.{store}
use Rattle.event_model.specs.Policies.{budget}
use Rattle.rtl_flat.specs.Flats.{Flat, flat}
use Rattle.event_tables.specs.event_write.declared.fanout.Fanout.{Fanout}
use Rattle.event_tables.specs.event_write.declared.queue_state.QueueState.{QueueState}
use Rattle.event_tables.specs.event_write.QueueState.{IsFanout, IsQueueState, design_of, state}
use Rattle.event_take.specs.Lawful.{IsLawful}
use Rattle.event_queue.specs.declared.costs.Costs.{Costs}
use Rattle.event_queue.specs.declared.start.Start.{Start}
use Rattle.event_queue.specs.declared.start.Start.TheVariants.{PowerUp, Values}
use Rattle.event_queue.specs.Costs.{AreCosts}
use Rattle.event_queue.specs.First.{IsFirst}
use Rattle.event_queue.specs.Holding.{IsSim}
use Rattle.event_queue.specs.Starts.{start_of}
use Rattle.event_queue.proofs.Kept.{power_up_lawful, settled_lawful}

start_lawful : (d : Flat) (start : Start) → IsLawful d (start_of d start)
start_lawful d PowerUp = power_up_lawful d
start_lawful d (Values values) = settled_lawful d (store values.items)

-- the room for prepared writes is no large number
pub small_room : (most share : ℕ) → most ≤ 300000 → share ≤ 1000000000000 → most * share ≤ 300000000000000000
small_room most share few some = mul-le most share 300000 1000000000000 few some

-- what holds of it
pub holding : (design : Design) (start : Start) (given : List (Option ℕ)) (fanout : Fanout) (m : QueueState) (costs : Costs) (most : ℕ) → IsFanout fanout → fanout.design.now ≡ design → AreCosts (map task design.processes.items) costs → most ≡ budget (flat design) → IsFirst (flat design) (start_of (flat design) start) given (most * costs.share) m → IsSim fanout m costs most most
holding design start given fanout m costs most tables same are most_is first =
    let d : design_of fanout ≡ flat design = ap flat same in
    let waiting = first.room.waiting in
    let active = first.room.active in
    let none = ap length first.room.none in
    record {
      fanout = tables;
      queue = subst (λ (f : Flat). IsQueueState f m) (sym d) first.queue;
      lawful = subst (λ (f : Flat). IsLawful f (state m)) (sym d) (subst (IsLawful (flat design)) (sym first.state) (start_lawful (flat design) start));
      costs = subst (λ (f : Flat). AreCosts f.tasks costs) (sym d) are;
      budget = most_is ∙ ap budget (sym d);
      left = omega arith;
      waiting = omega (arith, none);
      waiting_room = omega (arith, waiting);
      active_room = omega (arith, active);
      scratch = first.room.scratch;
    }

pub levels_are : (design : Design) (given levels : List (Option ℕ)) → levels ≡ given → ((p : ℕ) → p < length design.processes.items → IsLevel design.signals.items (map task design.processes.items) p (slice_index_or given p None)) → (p : ℕ) → p < length (flat design).tasks → IsLevel (flat design).signals (flat design).tasks p (slice_index_or levels p None)
levels_are design given levels is each p within =
    let count = length-map design.processes.items task in
    subst (λ (ls : List (Option ℕ)). IsLevel design.signals.items (map task design.processes.items) p (slice_index_or ls p None)) (sym is) (each p (omega (arith, within, count)))
