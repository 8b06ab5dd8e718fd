use Rattle.desk_rulings.proofs.Loops.{sources_on}
use Rattle.desk_rulings.proofs.waiving.sources_in.Goals as goal

pub loop-file-preserved : goal.loop-file-preserved
loop-file-preserved c =
    sources_on c.args.files.now c.loop-file.file-index c.file-item.result _ _ c.loop-file-test.true c.file-item.is c.loop-file.invariant c.in_ok-push.ensures.ok
