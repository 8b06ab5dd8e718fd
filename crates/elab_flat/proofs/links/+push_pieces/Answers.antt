use Rattle.std.proofs.Common.{◌∙◌, ◌++◌, ap, map, sym}
use Rattle.std.proofs.lemmas.Result.{IfOk-weaker}
use Rattle.rtl_flat.specs.Process.{piece}
use Rattle.rtl_tree.specs.TreeExpr.{formula, formula_row}
use Rattle.elab_walk.specs.elab_scope.Names.{meanings}
use Rattle.elab_walk.specs.elab_links.Drivable.{all_link_pieces}
use Rattle.elab_walk.proofs.elab_links_proofs.Pieces.{concat_pieces}
use Rattle.elab_flat.proofs.links.+push_pieces.Goals as goal

pub push_pieces-returns-in-Concat : goal.push_pieces-returns-in-Concat
push_pieces-returns-in-Concat t c =
    IfOk-weaker c.push_all_pieces.result _ _ (λ all h. h ∙ ap (λ pieces. map piece c.args.made.items ++ pieces) (ap (λ parts. all_link_pieces c.args.site.file c.args.site.base (meanings c.args.names.now) (formula_row (map formula parts))) c.deref-in-Concat.ensures.value ∙ sym (concat_pieces c.args.site.file c.args.site.base (meanings c.args.names.now) c.in-Concat.field-0 c.in-Concat.parts c.args.e.now c.in-Concat.is))) c.push_all_pieces.ensures
