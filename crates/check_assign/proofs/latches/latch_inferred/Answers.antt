use Rattle.std.proofs.Common.{arith}
use Rattle.rtl_flat.specs.Flats.{flat}
use Rattle.check_loops.specs.check_found.Gathered.{signal_numbers}
use Rattle.check_loops.proofs.check_found_proofs.Sites.{next_below}
use Rattle.check_assign.specs.Assigned.{IsLatchInferred, latch_inferred_at}
use Rattle.check_assign.proofs.Turns.{task_of}
use Rattle.check_assign.proofs.latches.latch_inferred.Goals as goal

pub loop-number-preserved : goal.loop-number-preserved
loop-number-preserved c =
    let d = flat c.args.scans.now.design.now in
    let n = c.loop-number.number in
    let (one, there) = task_of c.args.scans.now.design.now n (omega arith) in
    next_below (IsLatchInferred d) latch_inferred_at (signal_numbers d) d n one c.loop-number.found.items c.push_latches.new.found.items there c.loop-number.invariant (c.in_ok-push_latches.ensures one there)
