use Rattle.std.proofs.Common.{◌≡◌, ◌++◌, map, drop}
use Rattle.rtl_tree.specs.TreeExpr.{formula}
use Rattle.rtl_flat.specs.Expression.{tree}
use Rattle.elab_nodes.specs.elab_scope.Names.{meanings}
use Rattle.elab_nodes.specs.elab_scope.Trees.{tree_of}
use Rattle.elab_body.proofs.acts.labels.Given as goal

abbrev pub invariant-loop-label : goal.invariant-loop-label
invariant-loop-label l =
    map tree l.made.items ++ map (λ label. tree_of l.site.file l.site.base (meanings l.names) label l.context) (map formula (drop l.label-index l.all))
    ≡ map (λ label. tree_of l.site.file l.site.base (meanings l.names) label l.context) (map formula l.all)
