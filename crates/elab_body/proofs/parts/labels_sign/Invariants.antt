use Rattle.std.proofs.Common.{◌≡◌, map, drop}
use Rattle.rtl_tree.specs.TreeExpr.{formula}
use Rattle.elab_nodes.specs.elab_scope.Names.{meanings}
use Rattle.elab_body.specs.Acts.{labels_sign}
use Rattle.elab_body.proofs.parts.labels_sign.Given as goal

abbrev pub invariant-loop-label : goal.invariant-loop-label
invariant-loop-label l =
    labels_sign (meanings l.names) l.signed (map formula (drop l.label-index l.all))
    ≡ labels_sign (meanings l.names) l.initial.signed (map formula l.all)
