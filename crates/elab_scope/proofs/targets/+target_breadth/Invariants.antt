use Rattle.std.proofs.Common.{◌≡◌, List, map, drop}
use Rattle.rtl_tree.specs.declared.tree.stmt.Lvalue.{Lvalue}
use Rattle.rtl_tree.specs.TreeStmt.{target, target_row}
use Rattle.elab_scope.specs.declared.widths.Breadth.{Breadth}
use Rattle.elab_scope.specs.declared.widths.Breadth.TheVariants.{Bits}
use Rattle.elab_scope.specs.Names.{meanings}
use Rattle.elab_scope.specs.Targets.{targets_breadth}
use Rattle.elab_scope.specs.Widths.{beside}
use Rattle.elab_scope.proofs.targets.+target_breadth.Given as goal

abbrev pub invariant-breadth_of_row-loop-part : goal.invariant-breadth_of_row-loop-part
invariant-breadth_of_row-loop-part l =
    let row : List Lvalue → Breadth = λ parts. targets_breadth (meanings l.names) (target_row (map target parts)) in
    (beside l.all (row (drop l.part-index l.parts)) ≡ row l.parts) × (beside l.all (Bits 0) ≡ l.all)
