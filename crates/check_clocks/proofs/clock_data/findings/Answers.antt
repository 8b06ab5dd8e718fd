use Rattle.std.proofs.Common.{arith}
use Rattle.rtl_flat.specs.Flats.{flat}
use Rattle.net_model.specs.Gates.{InCone}
use Rattle.check_gates.specs.check_chains.check_found.Gathered.{signal_numbers}
use Rattle.check_gates.proofs.Waiting.{task_there}
use Rattle.check_gates.proofs.check_chains_proofs.check_found_proofs.Sites.{next_below}
use Rattle.check_clocks.specs.Clocks.{IsClockAsData, clock_as_data_at}
use Rattle.check_clocks.proofs.clock_data.findings.Goals as goal

pub loop-number-preserved : goal.loop-number-preserved
loop-number-preserved c =
    let design = c.args.design.now in
    let d = flat design in
    let n = c.loop-number.number in
    let (one, there) = task_there design n (omega arith) in
    next_below (IsClockAsData (InCone (flat design)) d) (clock_as_data_at d) (signal_numbers d) d n one c.loop-number.found.items c.push_process.new.found.items
    there c.loop-number.invariant (c.in_ok-push_process.ensures one there)
