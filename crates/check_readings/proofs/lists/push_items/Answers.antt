use Rattle.rtl_flat.specs.Process.{task, watched}
use Rattle.check_readings.specs.Told.{item_told}
use Rattle.check_readings.proofs.Telling.{told_more}
use Rattle.check_readings.proofs.lists.push_items.Goals as goal

pub loop-item-preserved : goal.loop-item-preserved
loop-item-preserved c = λ p.
    told_more (item_told p (task c.args.process.now)) watched c.items-items.result.now c.loop-item.item-index c.item-item.result c.loop-item-test.true c.item-item.is _ c.loop-item.found.items c.push_item.new.found.items (c.loop-item.invariant p) (c.in_ok-push_item.ensures p)
