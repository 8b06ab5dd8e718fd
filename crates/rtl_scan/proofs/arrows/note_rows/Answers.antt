use Rattle.std.proofs.Common.{refl}
use Rattle.rtl_scan.proofs.Tables.{note_none, note_more}
use Rattle.rtl_scan.proofs.arrows.note_rows.Goals as goal

pub loop-row-preserved : goal.loop-row-preserved
loop-row-preserved c = λ new others.
    c.loop-row.invariant new
    (note_more c.args.rows.now c.loop-row.row-index c.args.process _ c.loop-row-test.true _ refl refl c.loop-row.table.items c.push_at.new.table.items c.in_ok-push_at.ensures new others)

pub returns : goal.returns
returns c =
    c.loop-row.invariant c.loop-row.table.items (note_none c.args.rows.now c.loop-row.row-index c.args.process c.loop-row.table.items c.loop-row-test.false)
