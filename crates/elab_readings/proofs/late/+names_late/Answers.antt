use Rattle.std.proofs.Common.{◌≡◌, ◌∙◌, false, ap, map, sym}
use Rattle.std.specs.Prelude.{◌||◌}
use Rattle.name_map.specs.Values.{values_of}
use Rattle.rtl_tree.specs.TreeExpr.{formula, formula_row}
use Rattle.elab_uses.specs.elab_scope.Names.{meanings}
use Rattle.elab_readings.specs.Connections.{names_late, row_names_late}
use Rattle.elab_readings.proofs.Borrowed.{repeat_late}
use Rattle.elab_readings.proofs.late.+names_late.Goals as goal

pub names_late-returns-else-names_late : goal.names_late-returns-else-names_late
names_late-returns-else-names_late t c =
    let scope = meanings c.args.names.now in
    let places = values_of c.args.places.now in
    let row = row_names_late scope places c.args.at (formula_row (map formula c.in-Repeat.parts.items)) in
    let times : names_late scope places c.args.at (formula c.in-Repeat.times.value) ≡ false =
    cc (c.names_late-in-Repeat.ensures, c.deref-in-Repeat.ensures, c.if-names_late.false) in
    c.any_names_late-else-names_late.ensures
    ∙ ap (λ parts. row_names_late scope places c.args.at (formula_row (map formula parts))) c.deref-else-names_late.ensures.value
    ∙ ap (λ b. b || row) (sym times)
    ∙ sym (repeat_late scope places c.args.at c.in-Repeat.field-0 c.in-Repeat.times c.in-Repeat.parts c.args.e.now c.in-Repeat.is)
