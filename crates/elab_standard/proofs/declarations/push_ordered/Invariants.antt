use Rattle.std.proofs.Common.{◌≡◌, ◌++◌, map, drop}
use Rattle.name_map.specs.Values.{values_of}
use Rattle.rtl_tree.specs.TreeExpr.{identifier}
use Rattle.rtl_tree.specs.TreeItem.{positional}
use Rattle.elab_standard.specs.Declarations.{ordered_notes}
use Rattle.elab_standard.specs.Scopes.{scopes}
use Rattle.elab_standard.proofs.declarations.push_ordered.Given as goal

abbrev pub invariant-loop-place : goal.invariant-loop-place
invariant-loop-place l =
    l.made.items ++ ordered_notes l.home (scopes l.holder) (values_of l.spans) (map (λ name. identifier name.now) l.names) l.place (map positional (drop l.place l.arguments))
    ≡ l.initial.made.items ++ ordered_notes l.home (scopes l.holder) (values_of l.spans) (map (λ name. identifier name.now) l.names) 0 (map positional l.arguments)
