use Rattle.std.proofs.Common.{sym, subst}
use Rattle.event_tables.specs.event_write.QueueState.{design_of}
use Rattle.event_take.specs.declared.choice.Choice.{Choice}
use Rattle.event_take.specs.Taken.{IsAble, event_of}
use Rattle.event_queue.specs.Rooms.{IsTaken, free, room_for}
use Rattle.event_queue.proofs.Loads.{delayed_taken}
use Rattle.event_queue.proofs.taking.take_event.Goals as goal

pub returns-in-Delayed-clause-taken : goal.returns-in-Delayed-clause-taken
returns-in-Delayed-clause-taken c =
    let d = design_of c.args.fanout.now in
    let made = c.make_update.ensures in
    subst (λ (one : Choice). IsTaken (room_for d (event_of one)) (free (event_of one)) c.args.queue.now c.make_update.new.queue) (sym c.in-Delayed.is)
    (delayed_taken d c.args.queue.now c.make_update.new.queue made.state made.levels made.waiting made.scratch made.active (subst (IsAble d c.args.queue.now) c.in-Delayed.is c.requires.able))
