use Rattle.rtl_flat.specs.Process.{piece, task}
use Rattle.check_readings.specs.Told.{target_told}
use Rattle.check_readings.proofs.Telling.{told_more}
use Rattle.check_readings.proofs.targets.push_targets.Goals as goal

pub loop-part-preserved : goal.loop-part-preserved
loop-part-preserved c = λ p.
    told_more (target_told p (task c.args.process.now)) (λ one. piece one.now) c.deref-part-items.result.now c.loop-part.part-index c.part-item.result c.loop-part-test.true c.part-item.is _ c.loop-part.found.items c.push_part.new.found.items (c.loop-part.invariant p) (c.in_ok-push_part.ensures p)
