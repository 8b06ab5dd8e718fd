use Rattle.std.proofs.Common.{◌∙◌, ◌==◌, sym, arith}
use Rattle.std.proofs.lemmas.Bool.{both_ways, eq-eqb, eqb-true, false≢true}
use Rattle.check_gates.proofs.Fitting.{IsOther, all_next, leaves_other, leaves_some, row_at, row_is}
use Rattle.check_gates.proofs.fit.leave_out.Goals as goal
use Rattle.check_gates.proofs.fit.leave_out.Goals.{else-eq-via-then-eq+else-row-ne0, else-eq-via-else-eq}

pub returns-then-row-ne0 : goal.returns-then-row-ne0
returns-then-row-ne0 c =
    let rows = c.args.rows.now in
    let at = c.loop-row.row-index in
    let signal = c.args.signal.0 in
    let same = eqb-true (row_at rows at).signal.0 signal (sym c.eq.ensures ∙ c.if-eq.true) in
    (λ h. absurd (false≢true h), λ out. absurd (leaves_some rows at (row_at rows at) signal c.loop-row-test.true (row_is rows at c.loop-row-test.true) same c.if-row-ne0.true out))

pub loop-row-preserved : goal.loop-row-preserved
loop-row-preserved c =
    let rows = c.args.rows.now in
    let at = c.loop-row.row-index in
    let signal = c.args.signal.0 in
    all_next (IsOther signal) rows at (row_at rows at) c.loop-row-test.true (row_is rows at c.loop-row-test.true) c.loop-row.invariant
    (leaves_other (row_at rows at) signal (λ same. elim c.else-eq.branch [
      | else-eq-via-then-eq+else-row-ne0 w ↦ omega (arith, w.if-row-ne0.false)
      | else-eq-via-else-eq w ↦ absurd (both_ways ((row_at rows at).signal.0 == signal) (sym c.eq.ensures ∙ w.if-eq.false) (eq-eqb (row_at rows at).signal.0 signal same))
    ]))
