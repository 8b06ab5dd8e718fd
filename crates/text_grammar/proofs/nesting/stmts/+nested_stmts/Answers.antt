use Rattle.std.proofs.Common.{arith}
use Rattle.std.proofs.lemmas.Grind.{common_steps}
use Rattle.text_grammar.proofs.TreeDepths.{block_depth, case_depth}
use Rattle.text_grammar.proofs.nesting.stmts.+nested_stmts.Goals as goal

pub stmt_depth-returns-in-Case : goal.stmt_depth-returns-in-Case
stmt_depth-returns-in-Case t c =
    let k = c.in-Case in
    grind (arith, common_steps, case_depth k.at k.kind k.full k.parallel k.selector k.items c.args.stmt.now k.is)

pub stmt_depth-returns-in-Block : goal.stmt_depth-returns-in-Block
stmt_depth-returns-in-Block t c =
    let k = c.in-Block in
    grind (arith, common_steps, block_depth k.field-0 k.field-1 k.body c.args.stmt.now k.is)
