use Rattle.std.specs.Option.{option_map}
use Rattle.std.proofs.Common.{arith}
use Rattle.std.proofs.lemmas.Grind.{common_steps}
use Rattle.elab_scope.specs.Faults.{refusal}
use Rattle.elab_scope.specs.Names.{meanings}
use Rattle.elab_scope.proofs.Least.{after_append}
use Rattle.elab_scope.proofs.TargetViews.{joined_breadth, joined_told}
use Rattle.elab_scope.proofs.Views.{beside_beside, beside_none}
use Rattle.elab_scope.proofs.targets.+judge_target.Goals as goal

pub judge_parts-returns-in-Concat-clause-best : goal.judge_parts-returns-in-Concat-clause-best
judge_parts-returns-in-Concat-clause-best t c =
    let told = joined_told c.args.by (meanings c.args.names.now) (option_map refusal c.args.best) c.in-Concat.at c.in-Concat.parts c.args.written.now c.in-Concat.is in
    grind (arith, common_steps, told)

pub judge_parts-returns-in-Concat-clause-breadth : goal.judge_parts-returns-in-Concat-clause-breadth
judge_parts-returns-in-Concat-clause-breadth t c =
    let told = joined_breadth (meanings c.args.names.now) c.in-Concat.at c.in-Concat.parts c.args.written.now c.in-Concat.is in
    grind (arith, common_steps, told)

pub judge_joined-loop-part-preserved : goal.judge_joined-loop-part-preserved
judge_joined-loop-part-preserved t c =
    (grind (arith, common_steps, beside_beside), grind (arith, common_steps, beside_none), grind (arith, common_steps, after_append))
