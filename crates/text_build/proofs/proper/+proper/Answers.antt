use Rattle.std.proofs.Common.{arith}
use Rattle.std.proofs.lemmas.Grind.{common_steps}
use Rattle.text_build.proofs.Rows.{proper_case}
use Rattle.text_build.proofs.proper.+proper.Goals as goal

pub is_proper-returns-then-may_be_items : goal.is_proper-returns-then-may_be_items
is_proper-returns-then-may_be_items t c =
    let k = c.in-Case in
    grind (arith, common_steps, proper_case k.at k.kind k.full k.parallel k.selector k.items c.args.stmt.now k.is)

pub is_proper-returns-else-may_be_items : goal.is_proper-returns-else-may_be_items
is_proper-returns-else-may_be_items t c =
    let k = c.in-Case in
    grind (arith, common_steps, proper_case k.at k.kind k.full k.parallel k.selector k.items c.args.stmt.now k.is)
