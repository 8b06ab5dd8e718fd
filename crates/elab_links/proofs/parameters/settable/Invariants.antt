use Rattle.std.proofs.Common.{◌≡◌, ◌++◌, map, drop}
use Rattle.rtl_tree.specs.TreeExpr.{identifier}
use Rattle.elab_items.specs.Declarations.{declaration}
use Rattle.elab_links.specs.Parameters.{settable}
use Rattle.elab_links.proofs.parameters.settable.Given as goal

abbrev pub invariant-loop-entry : goal.invariant-loop-entry
invariant-loop-entry l =
    map (λ name. identifier name.now) l.names.items ++ settable (map declaration (drop l.entry-index l.entries))
    ≡ settable (map declaration l.entries)
