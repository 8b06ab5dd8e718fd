use Rattle.std.proofs.Common.{◌∙◌, ap}
use Rattle.vcd_signals.specs.Recording.{row}
use Rattle.vcd_signals.proofs.Tables.{row_push}
use Rattle.vcd_signals.proofs.recorder.grow.Goals as goal

pub loop-alloc-preserved : goal.loop-alloc-preserved
loop-alloc-preserved c = λ code.
    ap (λ l. row l code) c.in_ok-push.ensures.items
    ∙ row_push c.loop-alloc.table.items c.new.result code c.new.ensures.items
    ∙ c.loop-alloc.invariant code
