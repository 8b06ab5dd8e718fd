use Rattle.std.proofs.Common.{arith}
use Rattle.rtl_flat.specs.declared.act.EventItem.{EventItem}
use Rattle.rtl_flat.specs.Process.{watched}
use Rattle.check_gates.specs.Waits.{waited_by}
use Rattle.check_gates.proofs.Waiting.{marked_next}
use Rattle.check_gates.proofs.waits.mark_items.Goals as goal

pub loop-item-preserved : goal.loop-item-preserved
loop-item-preserved c =
    marked_next (λ (item : EventItem). waited_by (watched item)) c.args.items.now c.loop-item.item-index c.item-item.result c.args.marks.now c.loop-item.marks c.mark_item.new.marks (omega arith) c.item-item.is c.loop-item.invariant c.mark_item.ensures
