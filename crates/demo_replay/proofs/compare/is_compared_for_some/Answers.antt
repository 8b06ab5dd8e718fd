use Rattle.std.proofs.Common.{◌∙◌, sym, arith}
use Rattle.demo_replay.proofs.Skipping.{next_some}
use Rattle.demo_replay.proofs.compare.is_compared_for_some.Goals as goal

pub loop-finding-preserved : goal.loop-finding-preserved
loop-finding-preserved c =
    next_some c.args.setup.now c.args.clocked.now c.args.findings.now c.args.number.0 c.loop-finding.finding-index _ (omega (arith)) (sym c.if-is_compared.ensures)
    ∙ c.loop-finding.invariant
