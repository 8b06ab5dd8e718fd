use Rattle.std.proofs.Common.{◌≡◌, map, drop}
use Rattle.rtl_tree.specs.TreeExpr.{formula, formula_row}
use Rattle.rtl_flat.specs.Expression.{tree}
use Rattle.elab_scope.specs.Names.{meanings}
use Rattle.elab_scope.specs.Trees.{row_tree}
use Rattle.elab_scope.proofs.Nodes.{before}
use Rattle.elab_scope.proofs.size.+size.Given as goal

abbrev pub invariant-row-loop-part : goal.invariant-row-loop-part
invariant-row-loop-part l =
    before (map tree l.made.items) (row_tree l.site.file l.site.base (meanings l.names) (formula_row (map formula (drop l.part-index l.parts))))
    ≡ row_tree l.site.file l.site.base (meanings l.names) (formula_row (map formula l.parts))
