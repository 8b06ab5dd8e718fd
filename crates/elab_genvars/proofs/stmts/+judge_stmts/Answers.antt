use Rattle.std.proofs.Common.{arith}
use Rattle.std.proofs.lemmas.Grind.{common_steps}
use Rattle.elab_scope.proofs.Least.{after_append}
use Rattle.elab_genvars.proofs.TreeGenvars.{case_genvars}
use Rattle.elab_genvars.proofs.stmts.+judge_stmts.Goals as goal

pub judge_stmt-returns-in-Case : goal.judge_stmt-returns-in-Case
judge_stmt-returns-in-Case g t c =
    let k = c.in-Case in
    let uses = case_genvars (g.S.Sorts.sorts c.args.names.now) k.at k.kind k.full k.parallel k.selector k.items c.args.stmt.now k.is in
    grind (arith, common_steps, after_append, uses)
