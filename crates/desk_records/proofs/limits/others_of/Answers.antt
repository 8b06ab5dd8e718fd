use Rattle.std.proofs.Common.{arith}
use Rattle.desk_records.proofs.Others.{bytes_more, count_more}
use Rattle.desk_records.proofs.limits.others_of.Goals as goal

pub loop-row-preserved : goal.loop-row-preserved
loop-row-preserved c =
    let counts = count_more c.args.name.now c.args.files.now c.loop-row.row-index c.row-item.result c.loop-row-test.true c.row-item.is in
    let sizes = bytes_more c.args.name.now c.args.files.now c.loop-row.row-index c.row-item.result c.loop-row-test.true c.row-item.is in
    (omega (arith, counts), omega (arith, sizes), omega arith)
