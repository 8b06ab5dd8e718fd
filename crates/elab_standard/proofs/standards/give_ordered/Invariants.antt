use Rattle.std.proofs.Common.{◌≡◌, map, drop}
use Rattle.name_map.specs.Values.{values_of}
use Rattle.rtl_tree.specs.TreeExpr.{identifier}
use Rattle.rtl_tree.specs.TreeItem.{positional}
use Rattle.elab_standard.specs.Scopes.{scopes}
use Rattle.elab_standard.specs.Standards.{ordered_given}
use Rattle.elab_standard.proofs.standards.give_ordered.Given as goal

abbrev pub invariant-loop-place : goal.invariant-loop-place
invariant-loop-place l =
    ordered_given (scopes l.holder) (map (λ name. identifier name.now) l.settable) (values_of l.given) l.place (map positional (drop l.place l.arguments))
    ≡ ordered_given (scopes l.holder) (map (λ name. identifier name.now) l.settable) (values_of l.initial.given) 0 (map positional l.arguments)
