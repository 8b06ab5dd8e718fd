use Rattle.std.proofs.Common.{arith}
use Rattle.std.proofs.lemmas.Grind.{common_steps}
use Rattle.elab_scope.specs.Names.{meanings}
use Rattle.elab_nodes.proofs.Sparing.{spared_more}
use Rattle.elab_nodes.proofs.Views.{concat_count, repeat_count}
use Rattle.elab_nodes.proofs.nodes.+spend.Goals as goal

pub spend-returns-in_ok-spare-in-Concat : goal.spend-returns-in_ok-spare-in-Concat
spend-returns-in_ok-spare-in-Concat t c =
    let told = concat_count (meanings c.args.names.now) c.in-Concat.field-0 c.in-Concat.parts c.args.e.now c.in-Concat.is in
    grind (arith, common_steps, told, spared_more)

pub spend-returns-in_ok-spare-in-Repeat : goal.spend-returns-in_ok-spare-in-Repeat
spend-returns-in_ok-spare-in-Repeat t c =
    let told = repeat_count (meanings c.args.names.now) c.in-Repeat.field-0 c.in-Repeat.field-1 c.in-Repeat.parts c.args.e.now c.in-Repeat.is in
    grind (arith, common_steps, told, spared_more)
