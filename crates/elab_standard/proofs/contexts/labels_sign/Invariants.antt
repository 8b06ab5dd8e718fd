use Rattle.std.proofs.Common.{◌≡◌, map, drop}
use Rattle.rtl_tree.specs.TreeExpr.{formula}
use Rattle.elab_walk.specs.elab_parts.elab_body.Acts.{labels_sign}
use Rattle.elab_standard.specs.Reads.{read_by}
use Rattle.elab_standard.specs.Scopes.{scopes}
use Rattle.elab_standard.proofs.contexts.labels_sign.Given as goal

abbrev pub invariant-loop-label : goal.invariant-loop-label
invariant-loop-label l =
    labels_sign (read_by l.by (scopes l.kept)) l.signed (map formula (drop l.label-index l.all))
    ≡ labels_sign (read_by l.by (scopes l.kept)) l.initial.signed (map formula l.all)
