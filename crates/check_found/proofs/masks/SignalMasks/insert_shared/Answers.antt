use Rattle.std.proofs.Common.{◌∙◌}
use Rattle.check_found.specs.Masks.{has_in}
use Rattle.check_found.proofs.Filled.{shared_more}
use Rattle.check_found.proofs.masks.SignalMasks.insert_shared.Goals as goal

pub loop-row-preserved : goal.loop-row-preserved
loop-row-preserved c = λ s k.
    shared_more c.args.rows.now c.loop-row.row-index _ c.loop-row-test.true (has_in c.loop-row.self) (has_in c.insert.new.self) (has_in c.args.other.now) c.shared.result c.shared.ensures c.in_ok-insert.ensures s k
    ∙ c.loop-row.invariant s k
