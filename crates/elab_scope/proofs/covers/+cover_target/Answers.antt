use Rattle.std.proofs.Common.{arith}
use Rattle.std.proofs.lemmas.Grind.{common_steps}
use Rattle.elab_scope.proofs.Least.{after_append}
use Rattle.elab_scope.proofs.covers.+cover_target.Goals as goal

pub cover_all-loop-part-preserved : goal.cover_all-loop-part-preserved
cover_all-loop-part-preserved t c =
    (grind (arith, common_steps), grind (arith, common_steps, after_append))
