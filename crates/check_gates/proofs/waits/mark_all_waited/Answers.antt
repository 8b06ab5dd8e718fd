use Rattle.std.proofs.Common.{arith}
use Rattle.rtl_flat.specs.declared.act.Process.{Process}
use Rattle.rtl_flat.specs.Process.{doing}
use Rattle.check_gates.specs.Waits.{waited}
use Rattle.check_gates.proofs.Waiting.{marked_next}
use Rattle.check_gates.proofs.waits.mark_all_waited.Goals as goal

pub loop-process-preserved : goal.loop-process-preserved
loop-process-preserved c =
    marked_next (λ (process : Process). waited (doing process.does)) c.args.processes.now c.loop-process.process-index c.process-item.result c.args.marks.now c.loop-process.marks c.mark_waited.new.marks (omega arith) c.process-item.is c.loop-process.invariant c.mark_waited.ensures
