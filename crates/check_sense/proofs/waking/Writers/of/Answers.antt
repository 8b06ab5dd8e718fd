use Rattle.std.proofs.Common.{arith}
use Rattle.rtl_flat.specs.Flats.{flat}
use Rattle.check_found.specs.rtl_scan.Sets.{has_rows}
use Rattle.check_sense.proofs.Findings.{process_there}
use Rattle.check_sense.proofs.Woken.{writers_more}
use Rattle.check_sense.proofs.waking.Writers.of.Goals as goal

pub loop-number-preserved : goal.loop-number-preserved
loop-number-preserved c =
    let n = c.loop-number.number in
    let (t, at) = process_there c.args.scans.now.design.now n (omega arith) in
    writers_more (flat c.args.scans.now.design.now) n t at (has_rows c.written.result.now.rows.items) (c.written.ensures.bits t at) c.loop-number.writers c.add.new.self c.loop-number.invariant c.in_ok-add.ensures
