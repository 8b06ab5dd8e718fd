use Rattle.rtl_flat.specs.Process.{task}
use Rattle.rtl_flat.specs.Flats.{flat}
use Rattle.check_loops.specs.check_found.Gathered.{signal_numbers}
use Rattle.check_loops.proofs.check_found_proofs.Sites.{next_below}
use Rattle.check_assign.specs.Assigned.{IsBlockingState, blocking_state_at}
use Rattle.check_assign.proofs.Turns.{task_there}
use Rattle.check_assign.proofs.kinds.blocking_state.Goals as goal

pub loop-process-preserved : goal.loop-process-preserved
loop-process-preserved c =
    let d = flat c.args.scans.now.design.now in
    let n = c.loop-process.process-index in
    let one = c.process-item.result in
    next_below (IsBlockingState d) (blocking_state_at d) (signal_numbers d) d n (task one) c.loop-process.found.items c.push_blocking.new.found.items
    (task_there c.args.scans.now.design.now c.deref-process-items.result.now n one c.deref-process-items.ensures.value c.loop-process-test.true c.process-item.is)
    c.loop-process.invariant (c.in_ok-push_blocking.ensures n)
