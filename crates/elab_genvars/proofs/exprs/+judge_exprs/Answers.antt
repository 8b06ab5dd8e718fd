use Rattle.std.proofs.Common.{arith}
use Rattle.std.proofs.lemmas.Grind.{common_steps}
use Rattle.elab_scope.proofs.Least.{after_append}
use Rattle.elab_genvars.proofs.TreeGenvars.{repeat_genvars}
use Rattle.elab_genvars.proofs.exprs.+judge_exprs.Goals as goal

pub judge_expr_genvars-returns-in-Repeat : goal.judge_expr_genvars-returns-in-Repeat
judge_expr_genvars-returns-in-Repeat g t c =
    let k = c.in-Repeat in
    let uses = repeat_genvars (g.S.Sorts.sorts c.args.names.now) k.field-0 k.times k.parts c.args.e.now k.is in
    grind (arith, common_steps, after_append, uses)
