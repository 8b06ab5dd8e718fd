use Rattle.std.proofs.Common.{rules, arith}
use Rattle.std.proofs.lemmas.Grind.{common_steps}
use Rattle.rtl_flat.specs.declared.expr.Index.TheViews.{the_lemmas}
use Rattle.rtl_flat.proofs.Rows.{concat_at}
use Rattle.rtl_expr.proofs.walk.+eval.Goals as goal

pub form_value-concat_value-requires : goal.form_value-concat_value-requires
form_value-concat_value-requires t c =
    (search (rules, the_lemmas), grind (arith, common_steps, concat_at c.in-Concat.parts c.args.node.now c.in-Concat.is))
