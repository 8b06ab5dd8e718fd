use Rattle.std.proofs.Common.{◌∙◌, ap, sym, length}
use Rattle.std.proofs.lemmas.Bool.{ltb-true, ltb-false}
use Rattle.check_gates.proofs.Reached.{row_read}
use Rattle.check_gates.proofs.Topped.{row_past}
use Rattle.check_gates.proofs.tops.row_at.Goals as goal

pub returns-in-Some : goal.returns-in-Some
returns-in-Some c =
    let rows = c.args.rows.now in
    c.deref.ensures.value ∙ ap (λ v. v.items) c.in-Some.ensures.lookup.1
    ∙ sym (row_read rows c.args.signal.0 _ (ltb-true c.args.signal.0 (length rows) (sym c.in-Some.ensures.lookup.0)))

pub returns-in-None : goal.returns-in-None
returns-in-None c =
    row_past c.args.rows.now c.args.signal.0 (ltb-false c.args.signal.0 (length c.args.rows.now) (sym c.in-None.ensures.lookup.0))
