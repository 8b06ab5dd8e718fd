use Rattle.std.proofs.Common.{arith}
use Rattle.std.proofs.lemmas.Grind.{common_steps}
use Rattle.elab_sizes.proofs.TreeSizes.{joined_size}
use Rattle.elab_sizes.proofs.stmts.+sized_targets.Goals as goal

pub target_size-returns-in-Concat : goal.target_size-returns-in-Concat
target_size-returns-in-Concat t c =
    grind (arith, common_steps, joined_size c.in-Concat.field-0 c.in-Concat.parts c.args.lvalue.now c.in-Concat.is)
