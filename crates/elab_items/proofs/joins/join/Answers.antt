use Rattle.std.proofs.Common.{arith}
use Rattle.std.proofs.lemmas.Grind.{common_steps}
use Rattle.elab_scope.proofs.Least.{after_append}
use Rattle.elab_items.proofs.joins.join.Goals as goal

pub loop-entry-preserved : goal.loop-entry-preserved
loop-entry-preserved c = (grind (arith, common_steps), grind (arith, common_steps, after_append))
