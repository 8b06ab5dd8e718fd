use Rattle.std.proofs.Common.{◌≡◌, ◌+◌, ◌-◌, ◌*◌, ◌∙◌, length, Vec, ap, sym, subst, arith}
use Rattle.std.specs.Prelude.{vec_capacity}
use Rattle.std.specs.declared.alloc.Global.{Global}
use Rattle.event_model.specs.Order.{ready}
use Rattle.event_model.specs.Policies.{cost}
use Rattle.event_tables.specs.event_write.declared.entries.Entry.{Entry as Code}
use Rattle.event_take.specs.Lawful.{IsLawful}
use Rattle.event_take.specs.Taken.{event_of}
use Rattle.event_queue.specs.Sims.{flat_of, state_of}
use Rattle.event_queue.proofs.Kept.{after_lawful, ready_lawful}
use Rattle.event_queue.proofs.Paying.{has_room, less_work, room_left}
use Rattle.event_queue.proofs.Running.{never_activate}
use Rattle.event_queue.proofs.sim.EventSim.take_paid.Goals as goal

pub take_event-requires-clause-room : goal.take_event-requires-clause-room
take_event-requires-clause-room c =
    let s = c.args.self.now in
    let d = flat_of s in
    let is = c.args.self.now.is_sim in
    let e = event_of c.args.choice in
    let price = c.cost_of-cost.ensures in
    let enough = c.requires.paid in
    let paid : (s.left - c.cost_of-cost.result) + cost d e ≡ s.left = omega (arith, price, enough) in
    has_room d s.costs e (length s.queue.waiting.items) (vec_capacity s.queue.waiting) s.left (s.left - c.cost_of-cost.result) (s.costs.share * s.budget) is.costs paid is.waiting is.waiting_room

pub make_ready-requires-clause-lawful : goal.make_ready-requires-clause-lawful
make_ready-requires-clause-lawful c =
    let s = c.args.self.now in
    let d = flat_of s in
    subst (IsLawful d) (sym c.take_event.ensures.state) (after_lawful d (state_of s) (event_of c.args.choice) c.args.self.now.is_sim.lawful)

pub invariant_of-self : goal.invariant_of-self
invariant_of-self c =
    let s = c.args.self.now in
    let d = flat_of s in
    let is = c.args.self.now.is_sim in
    let e = event_of c.args.choice in
    let price = c.cost_of-cost.ensures in
    let enough = c.requires.paid in
    let paid : (s.left - c.cost_of-cost.result) + cost d e ≡ s.left = omega (arith, price, enough) in
    let all = s.costs.share * s.budget in
    let taken = c.take_event.ensures.taken in
    let made = c.make_ready.ensures.made in
    let most = is.left in
    let waiting_room = is.waiting_room in
    let active_room = is.active_room in
    let ample = is.scratch in
    let more = taken.room in
    let same = ap (λ (v : Vec Code Global). vec_capacity v) taken.active in
    let scratch = taken.scratch in
    let scratch_then = made.scratch in
    let rooms = made.room all (omega (arith, waiting_room, more)) (omega (arith, active_room, same)) in
    record {
      is_sim = record {
        fanout = is.fanout;
        queue = c.make_ready.ensures.queue;
        lawful = subst (IsLawful d) (sym (c.make_ready.ensures.state ∙ ap (ready d) c.take_event.ensures.state)) (ready_lawful d (state_of s) e is.lawful);
        costs = is.costs;
        budget = is.budget;
        left = omega (arith, most);
        waiting = room_left d s.costs e s.queue c.take_event.new.queue c.make_ready.new.queue s.left (s.left - c.cost_of-cost.result) all is.costs paid is.waiting taken made;
        waiting_room = rooms.0;
        active_room = rooms.1;
        scratch = omega (arith, ample, scratch, scratch_then);
      };
    }

pub returns-clause-work : goal.returns-clause-work
returns-clause-work c =
    let s = c.args.self.now in
    let d = flat_of s in
    let e = event_of c.args.choice in
    let price = c.cost_of-cost.ensures in
    let enough = c.requires.paid in
    let paid : (s.left - c.cost_of-cost.result) + cost d e ≡ s.left = omega (arith, price, enough) in
    less_work d s.costs e s.queue c.take_event.new.queue c.make_ready.new.queue s.left (s.left - c.cost_of-cost.result) c.args.self.now.is_sim.costs (never_activate c.args.choice) paid c.take_event.ensures.taken c.make_ready.ensures.made
