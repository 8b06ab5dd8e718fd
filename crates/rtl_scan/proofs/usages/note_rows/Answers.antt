use Rattle.rtl_scan.proofs.Users.{row_more}
use Rattle.rtl_scan.proofs.usages.note_rows.Goals as goal

pub loop-row-preserved : goal.loop-row-preserved
loop-row-preserved c = λ new others.
    c.loop-row.invariant new
    (row_more c.args.rows.now c.loop-row.row-index _ c.loop-row-test.true c.args.process c.args.found.now c.loop-row.usages c.note_row.new.usages c.note_row.ensures new others)
