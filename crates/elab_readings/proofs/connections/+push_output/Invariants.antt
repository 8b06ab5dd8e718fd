use Rattle.std.proofs.Common.{◌≡◌, ◌++◌, map, drop}
use Rattle.std.specs.List.{flat_map}
use Rattle.rtl_tree.specs.TreeExpr.{formula, formula_row}
use Rattle.elab_uses.specs.elab_standard.Uses.{use_notes}
use Rattle.elab_readings.specs.Connections.{row_driven_numbers}
use Rattle.elab_readings.specs.Views.{holder}
use Rattle.elab_readings.proofs.connections.+push_output.Given as goal

abbrev pub invariant-push_outputs-loop-part : goal.invariant-push_outputs-loop-part
invariant-push_outputs-loop-part l =
    l.made.items ++ flat_map (use_notes (holder l.within).home (holder l.within).scopes) (row_driven_numbers (formula_row (map formula (drop l.part-index l.parts))))
    ≡ l.initial.made.items ++ flat_map (use_notes (holder l.within).home (holder l.within).scopes) (row_driven_numbers (formula_row (map formula l.parts)))
