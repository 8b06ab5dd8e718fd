use Rattle.std.proofs.Common.{◌≡◌, ◌++◌, map, drop}
use Rattle.rtl_tree.specs.TreeExpr.{formula, formula_row}
use Rattle.elab_items.specs.elab_scope.Names.{meanings}
use Rattle.elab_links.specs.Drivable.{all_covers_of}
use Rattle.elab_links.proofs.drivable.+push_covers.Given as goal

abbrev pub invariant-push_all_covers-loop-part : goal.invariant-push_all_covers-loop-part
invariant-push_all_covers-loop-part l =
    l.covers.items ++ all_covers_of (meanings l.names) (formula_row (map formula (drop l.part-index l.parts)))
    ≡ l.initial.covers.items ++ all_covers_of (meanings l.names) (formula_row (map formula l.parts))
