use Rattle.std.proofs.Common.{◌≡◌, map, drop}
use Rattle.name_map.specs.Values.{values_of}
use Rattle.rtl_tree.specs.TreeItem.{associated}
use Rattle.elab_standard.specs.Scopes.{scopes}
use Rattle.elab_standard.specs.Standards.{named_given}
use Rattle.elab_standard.proofs.standards.give_named.Given as goal

abbrev pub invariant-loop-argument : goal.invariant-loop-argument
invariant-loop-argument l =
    named_given (scopes l.holder) (values_of l.given) (map associated (drop l.argument-index l.arguments))
    ≡ named_given (scopes l.holder) (values_of l.initial.given) (map associated l.arguments)
