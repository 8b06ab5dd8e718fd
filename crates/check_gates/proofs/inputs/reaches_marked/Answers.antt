use Rattle.std.proofs.Common.{◌≡◌, ◌∙◌, true, false, get_or, sym, ap, subst}
use Rattle.std.specs.Prelude.{◌↔◌}
use Rattle.std.specs.List.{list_any}
use Rattle.check_gates.specs.Waits.{ReachesMarked}
use Rattle.check_gates.proofs.Marking.{reaches_is}
use Rattle.check_gates.proofs.inputs.reaches_marked.Goals as goal

pub returns : goal.returns
returns c =
    let rows = c.args.rows.now in
    let marks = c.args.marks.now in
    let start = c.args.start in
    subst (λ b. b ≡ true ↔ ReachesMarked rows marks start)
    (sym (c.any_marked.ensures ∙ ap (list_any (λ place. get_or marks place false)) c.deref.ensures.value))
    (reaches_is rows marks start c.in_ok-found.found.items c.in_ok-found.ensures)
