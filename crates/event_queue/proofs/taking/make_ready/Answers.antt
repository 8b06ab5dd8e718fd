use Rattle.event_queue.proofs.Loads.{made_ready}
use Rattle.event_queue.proofs.taking.make_ready.Goals as goal

pub returns-then-is_idle-clause-made : goal.returns-then-is_idle-clause-made
returns-then-is_idle-clause-made c =
    made_ready c.args.queue.now c.activate.new.queue c.activate.ensures.state c.activate.ensures.levels c.activate.ensures.active c.activate.ensures.waiting c.activate.ensures.scratch
