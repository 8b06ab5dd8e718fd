use Rattle.std.proofs.Common.{arith}
use Rattle.std.proofs.lemmas.Grind.{common_steps}
use Rattle.check_clocks.proofs.uses.push_reads.Goals as goal

pub loop-e-preserved : goal.loop-e-preserved
loop-e-preserved c =
    λ otherwise s. grind (arith, common_steps, c.loop-e.invariant otherwise s, c.in_ok-push_read.ensures otherwise s)
