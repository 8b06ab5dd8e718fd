use Rattle.std.proofs.Common.{◌≡◌, ◌∙◌, true, sym, ap, subst}
use Rattle.std.specs.Prelude.{◌↔◌}
use Rattle.net_list.specs.check_clocks.Cone.{ReachesControl, is_control}
use Rattle.net_list.proofs.check_clocks_proofs.Coned.{turns_from, turns_to}
use Rattle.infer_regs.proofs.inputs.reaches_control.Goals as goal

pub returns : goal.returns
returns c =
    let rows = c.args.rows.now in
    let marks = c.args.marks.now in
    let gate = c.args.gate in
    let start = c.args.start in
    let found = c.in_ok-found.found.items in
    subst (λ b. b ≡ true ↔ ReachesControl rows marks gate start)
    (sym (c.is_control.ensures ∙ ap (is_control gate marks) c.deref.ensures.value))
    (turns_to rows marks gate start found c.in_ok-found.ensures, turns_from rows marks gate start found c.in_ok-found.ensures)
