use Rattle.std.proofs.Common.{length, map, Vec, ap, sym, subst, arith}
use Rattle.std.specs.Prelude.{vec_capacity}
use Rattle.std.specs.declared.alloc.Global.{Global}
use Rattle.std.proofs.lemmas.List.{length-map}
use Rattle.event_tables.specs.event_write.declared.entries.Entry.{Entry as Code}
use Rattle.event_tables.specs.event_write.Entries.{entry}
use Rattle.event_take.specs.Lawful.{IsLawful}
use Rattle.event_queue.specs.Sims.{flat_of, state_of}
use Rattle.event_queue.proofs.Kept.{offer_lawful}
use Rattle.event_queue.proofs.Loads.{none_waiting}
use Rattle.event_queue.proofs.sim.EventSim.offer.Goals as goal

pub invariant_of-self : goal.invariant_of-self
invariant_of-self c =
    let s = c.args.self.now in
    let d = flat_of s in
    let is = c.args.self.now.is_sim in
    let still = c.offer_all.ensures.still in
    let empty = none_waiting (map entry s.queue.waiting.items) c.requires.delayed in
    let count = length-map s.queue.waiting.items entry in
    let same = ap (λ (v : Vec Code Global). length v.items) still.waiting in
    let waiting = ap (λ (v : Vec Code Global). vec_capacity v) still.waiting in
    let active = ap (λ (v : Vec Code Global). vec_capacity v) still.active in
    let scratch = ap (λ (v : Vec Code Global). vec_capacity v) still.scratch in
    let waiting_room = is.waiting_room in
    let active_room = is.active_room in
    let ample = is.scratch in
    record {
      is_sim = record {
        fanout = is.fanout;
        queue = c.offer_all.ensures.queue;
        lawful = subst (IsLawful d) (sym c.offer_all.ensures.state) (offer_lawful d (state_of s) c.args.settings.now c.requires.allowed is.lawful);
        costs = is.costs;
        budget = is.budget;
        left = omega arith;
        waiting = omega (arith, empty, count, same);
        waiting_room = omega (arith, waiting, waiting_room);
        active_room = omega (arith, active, active_room);
        scratch = omega (arith, scratch, ample);
      };
    }
