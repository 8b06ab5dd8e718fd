use Rattle.std.proofs.Common.{◌≡◌, map, drop}
use Rattle.rtl_tree.specs.TreeExpr.{identifier}
use Rattle.elab_scope.specs.Names.{meanings}
use Rattle.elab_expand.specs.Openings.{outers}
use Rattle.elab_expand.specs.Scoping.{with_names}
use Rattle.elab_expand.proofs.placing.declare_names.Given as goal

abbrev pub invariant-loop-name : goal.invariant-loop-name
invariant-loop-name l =
    with_names (record { outer = outers l.outer; own = meanings l.own }) (map identifier (drop l.name-index l.names)) l.meaning
    ≡ with_names (record { outer = outers l.outer; own = meanings l.initial.own }) (map identifier l.names) l.meaning
