use Rattle.std.proofs.Common.{◌+◌, ◌*◌, length, map, reverse}
use Rattle.rtl_tree.specs.Symbols.{terminal}
use Rattle.text_survey.proofs.Laws.Loops.{So}
use Rattle.text_survey.proofs.Laws.Weights.{load}
use Rattle.text_survey.proofs.machine.survey.Given as goal

abbrev pub invariant-loop-task : goal.invariant-loop-task
invariant-loop-task l = So (map terminal l.tokens) (reverse l.machine.tasks.items) (map terminal l.machine.rest.now) l.machine.depths

abbrev pub decreases-loop-task : goal.decreases-loop-task
decreases-loop-task l = 512 * length l.machine.rest.now + load (reverse l.machine.tasks.items)
