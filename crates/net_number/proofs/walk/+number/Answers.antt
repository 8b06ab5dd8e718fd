use Rattle.std.proofs.Common.{rules, arith}
use Rattle.std.proofs.lemmas.Grind.{common_steps}
use Rattle.rtl_flat.specs.declared.expr.Index.TheViews.{the_lemmas}
use Rattle.rtl_flat.proofs.Rows.{concat_at}
use Rattle.net_number.proofs.walk.+number.Goals as goal

pub form_number-concat_number-requires : goal.form_number-concat_number-requires
form_number-concat_number-requires t c =
    (search (rules, the_lemmas), grind (arith, common_steps, concat_at c.in-Concat.parts c.args.node.now c.in-Concat.is))
