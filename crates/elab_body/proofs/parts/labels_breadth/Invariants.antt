use Rattle.std.proofs.Common.{◌≡◌, map, drop}
use Rattle.rtl_tree.specs.TreeExpr.{formula}
use Rattle.elab_nodes.specs.elab_scope.Names.{meanings}
use Rattle.elab_body.specs.Acts.{labels_breadth}
use Rattle.elab_body.proofs.parts.labels_breadth.Given as goal

abbrev pub invariant-loop-label : goal.invariant-loop-label
invariant-loop-label l =
    labels_breadth (meanings l.names) l.widest (map formula (drop l.label-index l.all))
    ≡ labels_breadth (meanings l.names) l.initial.widest (map formula l.all)
