use Rattle.std.proofs.Common.{◌∙◌, ◌++◌, [], Option, ap, sym, append-nil}
use Rattle.std.specs.List.{cons_option}
use Rattle.std.proofs.lemmas.Result.{on_ok_weaker}
use Rattle.rtl_flat.specs.declared.expr.Node.{Node}
use Rattle.rtl_flat.specs.Expression.{Sized, form}
use Rattle.rtl_flat.specs.Flats.{flat, widths}
use Rattle.check_unknown.specs.Lists.{misses_found}
use Rattle.check_unknown.specs.Unknowns.{Pick, pick_in}
use Rattle.check_unknown.proofs.Nodes.{no_pick}
use Rattle.check_unknown.proofs.Picks.{pick_is}
use Rattle.check_unknown.proofs.selects.push_read.Goals as goal

pub returns-in-Read : goal.returns-in-Read
returns-in-Read c =
    let e = c.args.e.now in
    let ws = widths (flat c.args.design.now) in
    let same = ap (λ (n : Node). pick_in (Sized e.width e.signed e.spot (form n))) c.in-Read.is ∙ pick_is e.width e.signed e.spot c.in-Read.signal.0 c.in-Read.select in
    on_ok_weaker c.push_miss.result
    (λ h. h ∙ ap (λ (o : Option Pick). c.args.found.now.items ++ misses_found ws c.args.instance (cons_option o [])) (sym same))
    c.push_miss.ensures

pub returns-in_default : goal.returns-in_default
returns-in_default c =
    let e = c.args.e.now in
    let ws = widths (flat c.args.design.now) in
    sym (ap (λ (o : Option Pick). c.args.found.now.items ++ misses_found ws c.args.instance (cons_option o [])) (no_pick e.width e.signed e.spot e.node c.in_default.not-Read) ∙ append-nil c.args.found.now.items)
