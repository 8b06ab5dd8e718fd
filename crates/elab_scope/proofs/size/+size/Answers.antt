use Rattle.std.proofs.Common.{◌∙◌, ap, arith}
use Rattle.std.proofs.lemmas.Grind.{common_steps}
use Rattle.rtl_tree.specs.TreeExpr.{formula}
use Rattle.elab_scope.specs.Names.{meanings}
use Rattle.elab_scope.specs.Trees.{tree_of}
use Rattle.elab_scope.proofs.Nodes.{repeat_tree, row_step, row_done}
use Rattle.elab_scope.proofs.size.+size.Goals as goal

pub row-loop-part-preserved : goal.row-loop-part-preserved
row-loop-part-preserved t c =
    let same = c.in_ok-size.ensures.tree ∙ ap (tree_of c.args.site.file c.args.site.base (meanings c.args.names.now) (formula c.part-item.result)) c.own_context.ensures.exact in
    let step = row_step c.args.site.file c.args.site.base (meanings c.args.names.now) c.args.parts.now c.loop-part.part-index c.part-item.result c.loop-part.made.items c.in_ok-size.field-0 c.loop-part-test.true c.part-item.is same in
    grind (arith, common_steps, step)

pub row-returns : goal.row-returns
row-returns t c =
    row_done c.args.site.file c.args.site.base (meanings c.args.names.now) c.args.parts.now c.loop-part.part-index c.loop-part.made (omega arith) c.loop-part.invariant

pub size-returns-in-Repeat-clause-tree : goal.size-returns-in-Repeat-clause-tree
size-returns-in-Repeat-clause-tree t c =
    let told = repeat_tree c.args.site.file c.args.site.base (meanings c.args.names.now) c.args.context c.in-Repeat.at c.in-Repeat.times c.in-Repeat.parts c.args.e.now c.in-Repeat.is in
    grind (arith, common_steps, told)
