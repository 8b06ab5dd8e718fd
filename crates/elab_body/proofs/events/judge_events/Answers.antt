use Rattle.std.proofs.Common.{arith}
use Rattle.std.proofs.lemmas.Grind.{common_steps}
use Rattle.elab_nodes.proofs.elab_scope_proofs.Least.{after_append}
use Rattle.elab_body.proofs.events.judge_events.Goals as goal

pub loop-event-preserved : goal.loop-event-preserved
loop-event-preserved c = grind (arith, common_steps, after_append, c.judge_event-best.ensures)
