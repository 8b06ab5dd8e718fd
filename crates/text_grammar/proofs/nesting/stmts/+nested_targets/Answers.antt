use Rattle.std.proofs.Common.{arith}
use Rattle.std.proofs.lemmas.Grind.{common_steps}
use Rattle.text_grammar.proofs.TreeDepths.{joined_depth}
use Rattle.text_grammar.proofs.nesting.stmts.+nested_targets.Goals as goal

pub target_depth-returns-in-Concat : goal.target_depth-returns-in-Concat
target_depth-returns-in-Concat t c =
    grind (arith, common_steps, joined_depth c.in-Concat.field-0 c.in-Concat.parts c.args.lvalue.now c.in-Concat.is)
