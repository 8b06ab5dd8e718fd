use Rattle.std.proofs.Common.{◌≡◌, ◌++◌, map, drop}
use Rattle.name_map.specs.Values.{values_of}
use Rattle.rtl_tree.specs.TreeItem.{associated}
use Rattle.elab_standard.specs.Declarations.{named_notes}
use Rattle.elab_standard.specs.Scopes.{scopes}
use Rattle.elab_standard.proofs.declarations.push_named.Given as goal

abbrev pub invariant-loop-argument : goal.invariant-loop-argument
invariant-loop-argument l =
    l.made.items ++ named_notes l.home (scopes l.holder) (values_of l.spans) (map associated (drop l.argument-index l.arguments))
    ≡ l.initial.made.items ++ named_notes l.home (scopes l.holder) (values_of l.spans) (map associated l.arguments)
