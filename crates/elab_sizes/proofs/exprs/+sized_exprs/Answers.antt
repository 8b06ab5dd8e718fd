use Rattle.std.proofs.Common.{arith}
use Rattle.std.proofs.lemmas.Grind.{common_steps}
use Rattle.elab_sizes.proofs.TreeSizes.{concat_size, repeat_size}
use Rattle.elab_sizes.proofs.exprs.+sized_exprs.Goals as goal

pub expr_size-returns-in-Concat : goal.expr_size-returns-in-Concat
expr_size-returns-in-Concat t c =
    grind (arith, common_steps, concat_size c.in-Concat.field-0 c.in-Concat.parts c.args.e.now c.in-Concat.is)

pub expr_size-returns-in-Repeat : goal.expr_size-returns-in-Repeat
expr_size-returns-in-Repeat t c =
    grind (arith, common_steps, repeat_size c.in-Repeat.field-0 c.in-Repeat.times c.in-Repeat.parts c.args.e.now c.in-Repeat.is)
