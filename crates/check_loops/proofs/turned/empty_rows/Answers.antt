use Rattle.std.proofs.Common.{◌∙◌, ap}
use Rattle.check_found.specs.rtl_scan.Graph.{row}
use Rattle.check_loops.proofs.Places.{row_empty}
use Rattle.check_loops.proofs.turned.empty_rows.Goals as goal

pub loop-preserved : goal.loop-preserved
loop-preserved c = λ q.
    ap (λ t. row t q) c.in_ok-push.ensures.items ∙ row_empty c.loop.table.items c.new.result c.new.ensures.items c.loop.invariant q
