use Rattle.std.proofs.Common.{◌≡◌, map, drop}
use Rattle.rtl_tree.specs.TreeExpr.{formula}
use Rattle.elab_walk.specs.elab_parts.elab_body.Acts.{labels_breadth}
use Rattle.elab_standard.specs.Reads.{read_by}
use Rattle.elab_standard.specs.Scopes.{scopes}
use Rattle.elab_standard.proofs.contexts.labels_breadth.Given as goal

abbrev pub invariant-loop-label : goal.invariant-loop-label
invariant-loop-label l =
    labels_breadth (read_by l.by (scopes l.kept)) l.widest (map formula (drop l.label-index l.all))
    ≡ labels_breadth (read_by l.by (scopes l.kept)) l.initial.widest (map formula l.all)
