use Rattle.std.specs.Option.{option_map}
use Rattle.std.proofs.Common.{arith}
use Rattle.std.proofs.lemmas.Grind.{common_steps}
use Rattle.elab_scope.specs.Faults.{refusal}
use Rattle.elab_scope.specs.Names.{meanings}
use Rattle.elab_scope.proofs.Least.{after_append}
use Rattle.elab_scope.proofs.Views.{concat_told, repeat_breadth, repeat_told, beside_beside, beside_none}
use Rattle.elab_scope.proofs.judge.+judge.Goals as goal

pub judge-returns-in-Concat-clause-best : goal.judge-returns-in-Concat-clause-best
judge-returns-in-Concat-clause-best t c =
    let told = concat_told (meanings c.args.names.now) (option_map refusal c.args.best) c.in-Concat.at c.in-Concat.parts c.args.e.now c.in-Concat.is in
    grind (arith, common_steps, told)

pub judge-returns-in-Repeat-clause-breadth : goal.judge-returns-in-Repeat-clause-breadth
judge-returns-in-Repeat-clause-breadth t c =
    let told = repeat_breadth (meanings c.args.names.now) c.in-Repeat.at c.in-Repeat.times c.in-Repeat.parts c.args.e.now c.in-Repeat.is in
    grind (arith, common_steps, told)

pub judge-returns-in-Repeat-clause-best : goal.judge-returns-in-Repeat-clause-best
judge-returns-in-Repeat-clause-best t c =
    let told = repeat_told (meanings c.args.names.now) (option_map refusal c.args.best) c.in-Repeat.at c.in-Repeat.times c.in-Repeat.parts c.args.e.now c.in-Repeat.is in
    grind (arith, common_steps, told)

pub judge_row-loop-part-preserved : goal.judge_row-loop-part-preserved
judge_row-loop-part-preserved t c =
    (grind (arith, common_steps, beside_beside), grind (arith, common_steps, beside_none), grind (arith, common_steps, after_append))
