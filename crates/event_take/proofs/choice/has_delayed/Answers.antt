use Rattle.std.proofs.Common.{arith}
use Rattle.event_take.proofs.Flags.{late_is}
use Rattle.event_take.proofs.choice.has_delayed.Goals as goal

pub returns-clause-event : goal.returns-clause-event
returns-clause-event c =
    let size = c.len.ensures in
    let fits = c.args.queue.now.active.ok.0 in
    late_is c.args.queue.now.active.items c.args.queue.now.next c.len.result (omega (arith, size, fits))
