use Rattle.text_build.proofs.Filtered.{by_place_more}
use Rattle.text_build.proofs.run.run_len.Goals as goal

pub loop-index-preserved : goal.loop-index-preserved
loop-index-preserved c = by_place_more _ _ _ c.loop-index.invariant c.loop-index.auto.index c.loop-index-test.true c.if-regions-index.false
