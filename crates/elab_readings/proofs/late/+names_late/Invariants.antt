use Rattle.std.proofs.Common.{◌≡◌, map, drop}
use Rattle.name_map.specs.Values.{values_of}
use Rattle.rtl_tree.specs.TreeExpr.{formula, formula_row}
use Rattle.elab_uses.specs.elab_scope.Names.{meanings}
use Rattle.elab_readings.specs.Connections.{row_names_late}
use Rattle.elab_readings.proofs.late.+names_late.Given as goal

abbrev pub invariant-any_names_late-loop-part : goal.invariant-any_names_late-loop-part
invariant-any_names_late-loop-part l =
    row_names_late (meanings l.names) (values_of l.places) l.at (formula_row (map formula l.parts))
    ≡ row_names_late (meanings l.names) (values_of l.places) l.at (formula_row (map formula (drop l.part-index l.parts)))
