use Rattle.rtl_flat.specs.Expression.{tree}
use Rattle.rtl_flat.specs.Flats.{flat}
use Rattle.rtl_flat.specs.Process.{task}
use Rattle.check_readings.specs.Told.{whole_told}
use Rattle.check_readings.proofs.Telling.{told_more}
use Rattle.check_readings.proofs.selects.push_wholes.Goals as goal

pub loop-e-preserved : goal.loop-e-preserved
loop-e-preserved c = λ p.
    told_more (whole_told (flat c.args.design.now) p (task c.args.process.now)) (λ e. tree e.now) c.deref-e-items.result.now c.loop-e.e-index c.e-item.result c.loop-e-test.true c.e-item.is _ c.loop-e.found.items c.push_whole.new.found.items (c.loop-e.invariant p) (c.in_ok-push_whole.ensures p)
