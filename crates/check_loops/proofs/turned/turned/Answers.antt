use Rattle.std.proofs.Common.{◌∙◌, ap}
use Rattle.check_found.proofs.rtl_scan_proofs.Advances.{row_get}
use Rattle.check_loops.proofs.Turning.{turned_more}
use Rattle.check_loops.proofs.turned.turned.Goals as goal

pub loop-from-preserved : goal.loop-from-preserved
loop-from-preserved c =
    let rows = c.args.rows.now in
    let start = c.loop-from.from in
    turned_more rows c.loop-from.table.items c.put_all.new.table.items start c.deref.result.now
    (c.deref.ensures.value ∙ (ap (λ v. v.items) c.index-rows-from.is ∙ row_get rows start c.index-rows-from.result c.loop-from-test.true)) c.loop-from.invariant c.in_ok-put_all.ensures
