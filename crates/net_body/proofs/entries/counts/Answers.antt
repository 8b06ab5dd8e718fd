use Rattle.std.proofs.Common.{map, ap, arith}
use Rattle.rtl_flat.specs.Process.{piece}
use Rattle.rtl_flat.specs.Signs.{width_in}
use Rattle.rtl_scan.proofs.Labels.{left_at}
use Rattle.event_model.specs.Writes.{counts}
use Rattle.net_body.proofs.entries.counts.Goals as goal

pub overflow_add-count : goal.overflow_add-count
overflow_add-count c =
    let left = left_at c.args.parts.now c.loop-part.part-index c.part-item.result c.loop-part-test.true c.part-item.is in
    let here = ap (λ ps. counts (width_in c.args.signals.now) (map piece ps)) left in
    let all = c.loop-part.invariant in
    let most = c.requires.at_most in
    let count = c.count_of-count.ensures in
    omega (arith, here, all, most, count)
