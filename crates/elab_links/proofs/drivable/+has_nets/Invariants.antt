use Rattle.std.proofs.Common.{◌≡◌, map, drop}
use Rattle.rtl_tree.specs.TreeExpr.{formula, formula_row}
use Rattle.elab_items.specs.elab_scope.Names.{meanings}
use Rattle.elab_links.specs.Drivable.{all_have_nets}
use Rattle.elab_links.proofs.drivable.+has_nets.Given as goal

abbrev pub invariant-all_have_nets-loop-part : goal.invariant-all_have_nets-loop-part
invariant-all_have_nets-loop-part l =
    all_have_nets (meanings l.names) (formula_row (map formula (drop l.part-index l.parts)))
    ≡ all_have_nets (meanings l.names) (formula_row (map formula l.parts))
