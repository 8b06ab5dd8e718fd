use Rattle.std.proofs.Common.{arith}
use Rattle.std.proofs.lemmas.Grind.{common_steps}
use Rattle.text_grammar.proofs.TreeDepths.{concat_depth, repeat_depth}
use Rattle.text_grammar.proofs.nesting.exprs.+nested_exprs.Goals as goal

pub expr_depth-returns-in-Concat : goal.expr_depth-returns-in-Concat
expr_depth-returns-in-Concat t c =
    grind (arith, common_steps, concat_depth c.in-Concat.field-0 c.in-Concat.parts c.args.e.now c.in-Concat.is)

pub expr_depth-returns-in-Repeat : goal.expr_depth-returns-in-Repeat
expr_depth-returns-in-Repeat t c =
    grind (arith, common_steps, repeat_depth c.in-Repeat.field-0 c.in-Repeat.times c.in-Repeat.parts c.args.e.now c.in-Repeat.is)
