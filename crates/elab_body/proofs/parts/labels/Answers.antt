use Rattle.std.proofs.Common.{arith}
use Rattle.std.proofs.lemmas.Grind.{common_steps}
use Rattle.elab_body.proofs.Passing.{passed_faults}
use Rattle.elab_body.proofs.parts.labels.Goals as goal

pub loop-label-preserved : goal.loop-label-preserved
loop-label-preserved c = grind (arith, common_steps, passed_faults, c.judge-so_far.ensures)
