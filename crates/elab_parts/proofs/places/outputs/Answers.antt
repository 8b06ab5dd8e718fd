use Rattle.std.proofs.Common.{arith, ap, length, drop, ◌≡◌}
use Rattle.std.proofs.lemmas.List.{drop_all}
use Rattle.elab_parts.proofs.Gates.{count_more, gate_places}
use Rattle.elab_parts.proofs.places.outputs.Goals as goal

pub loop-drive-preserved : goal.loop-drive-preserved
loop-drive-preserved c =
    let more = count_more c.args.drives.now c.loop-drive.drive-index c.drive-item.result c.loop-drive-test.true c.drive-item.is in
    (omega (arith, more), omega arith)

pub returns : goal.returns
returns c =
    let none : length (gate_places (drop c.loop-drive.drive-index c.args.drives.now)) ≡ 0 =
    ap (λ all. length (gate_places all)) (drop_all c.loop-drive.drive-index c.args.drives.now c.loop-drive-test.false) in
    omega (arith, none)
