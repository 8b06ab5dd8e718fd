use Rattle.std.proofs.Common.{arith}
use Rattle.std.proofs.lemmas.Grind.{common_steps}
use Rattle.elab_body.proofs.elab_scope_proofs.Least.{after_append}
use Rattle.elab_parts.proofs.terminals.judge_terminals.Goals as goal

pub loop-drive-preserved : goal.loop-drive-preserved
loop-drive-preserved c = grind (arith, common_steps, after_append, c.judge_gate-best.ensures)
