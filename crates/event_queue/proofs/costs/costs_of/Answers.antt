use Rattle.event_queue.proofs.Fewness.{assignments_so_far, entered_at, few_at, is_read, late_so_far}
use Rattle.event_queue.proofs.costs.costs_of.Goals as goal

pub enter-requires-clause-few : goal.enter-requires-clause-few
enter-requires-clause-few c =
    few_at c.args.design.now c.loop-process.process-index c.process-item.result
    (is_read c.args.design.now c.deref-process-items.result.now c.loop-process.process-index c.process-item.result c.deref-process-items.ensures.value c.loop-process-test.true c.process-item.is)

pub enter-requires-clause-late : goal.enter-requires-clause-late
enter-requires-clause-late c =
    late_so_far c.args.design.now c.loop-process.process-index c.loop-process.costs c.loop-process.invariant

pub enter-requires-clause-assignments : goal.enter-requires-clause-assignments
enter-requires-clause-assignments c =
    assignments_so_far c.args.design.now c.loop-process.process-index c.loop-process.costs c.loop-process.invariant

pub loop-process-preserved : goal.loop-process-preserved
loop-process-preserved c =
    entered_at c.args.design.now c.loop-process.process-index c.process-item.result c.loop-process.costs c.enter.new.costs
    (is_read c.args.design.now c.deref-process-items.result.now c.loop-process.process-index c.process-item.result c.deref-process-items.ensures.value c.loop-process-test.true c.process-item.is)
    c.loop-process.invariant c.in_ok-enter.ensures
