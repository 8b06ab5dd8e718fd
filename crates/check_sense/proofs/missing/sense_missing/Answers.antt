use Rattle.std.proofs.Common.{arith}
use Rattle.rtl_flat.specs.Flats.{flat}
use Rattle.check_found.specs.Gathered.{signal_numbers}
use Rattle.check_found.proofs.Sites.{next_below}
use Rattle.check_sense.specs.Sense.{IsSenseMissing, sense_missing_at}
use Rattle.check_sense.proofs.Findings.{process_there}
use Rattle.check_sense.proofs.missing.sense_missing.Goals as goal

pub loop-number-preserved : goal.loop-number-preserved
loop-number-preserved c =
    let d = flat c.args.scans.now.design.now in
    let n = c.loop-number.number in
    let (t, at) = process_there c.args.scans.now.design.now n (omega arith) in
    next_below (IsSenseMissing d) sense_missing_at (signal_numbers d) d n t c.loop-number.found.items c.push_missing.new.found.items at c.loop-number.invariant (c.in_ok-push_missing.ensures t at)
