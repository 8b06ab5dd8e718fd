use Rattle.std.proofs.Common.{arith}
use Rattle.std.proofs.lemmas.Grind.{common_steps}
use Rattle.elab_sizes.proofs.TreeSizes.{block_size, case_size}
use Rattle.elab_sizes.proofs.stmts.+sized_stmts.Goals as goal

pub stmt_size-returns-in-Case : goal.stmt_size-returns-in-Case
stmt_size-returns-in-Case t c =
    let k = c.in-Case in
    grind (arith, common_steps, case_size k.at k.kind k.full k.parallel k.selector k.items c.args.stmt.now k.is)

pub stmt_size-returns-in-Block : goal.stmt_size-returns-in-Block
stmt_size-returns-in-Block t c =
    let k = c.in-Block in
    grind (arith, common_steps, block_size k.field-0 k.label k.body c.args.stmt.now k.is)
