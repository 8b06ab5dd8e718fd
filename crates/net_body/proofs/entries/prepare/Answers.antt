use Rattle.std.proofs.Common.{◌≡◌, ◌+◌, ◌-◌, ◌<◌, length, map, drop, ap, arith}
use Rattle.rtl_flat.specs.Process.{piece}
use Rattle.rtl_flat.specs.Signs.{width_in}
use Rattle.rtl_flat.specs.Value.{store}
use Rattle.rtl_scan.proofs.Labels.{left_at}
use Rattle.event_model.specs.Writes.{counts}
use Rattle.net_body.proofs.Prepared.{prepared_inside, prepared_writes}
use Rattle.net_body.proofs.entries.prepare.Goals as goal

pub entry_of-requires-clause-inside : goal.entry_of-requires-clause-inside
entry_of-requires-clause-inside c =
    let left = left_at c.args.parts.now c.loop-number.number c.index-parts-number.result c.loop-number-test.true c.index-parts-number.is in
    let here = ap (λ ps. counts (width_in c.args.signals.now) (map piece ps)) left in
    let inv = c.loop-number.invariant.0 in
    let most = c.loop-number.invariant.3 in
    let count = c.count_of-left.ensures in
    omega (arith, here, inv, most, count)

pub loop-number-preserved : goal.loop-number-preserved
loop-number-preserved c =
    let ws = width_in c.args.signals.now in
    let n = store c.args.numbers.now in
    let at = c.loop-number.number in
    let part = c.index-parts-number.result in
    let others = drop (at + 1) c.args.parts.now in
    let left = left_at c.args.parts.now at part c.loop-number-test.true c.index-parts-number.is in
    let here = ap (λ ps. counts ws (map piece ps)) left in
    let inv = c.loop-number.invariant.0 in
    let most = c.loop-number.invariant.3 in
    let count = c.count_of-left.ensures in
    let fewer : c.loop-number.left - c.count_of-left.result ≡ counts ws (map piece others) = omega (arith, here, inv, count) in
    let test = c.loop-number-test.true in
    let room = c.requires.room in
    let same = c.loop-number.auto.entries in
    let there : at < length c.loop-number.entries = omega (arith, test, room, same) in (
      fewer,
      prepared_writes ws c.args.fill n part others (drop at c.args.parts.now) c.args.value (c.loop-number.left - c.count_of-left.result) c.loop-number.entries at c.entry_of.result _ there left fewer c.entry_of.ensures.writes c.loop-number.invariant.1,
      prepared_inside c.args.signals.now c.loop-number.entries at c.entry_of.result there c.loop-number.invariant.2 c.entry_of.ensures.inside,
      omega (arith, inv, most, count),
    )
