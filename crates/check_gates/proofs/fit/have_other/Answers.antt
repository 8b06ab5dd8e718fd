use Rattle.std.proofs.Common.{◌∙◌, inl, inr, refl, sym, arith}
use Rattle.check_gates.proofs.Fitting.{IsMarked, all_next, marked_all, other_there, row_at, row_is}
use Rattle.check_gates.proofs.fit.have_other.Goals as goal
use Rattle.check_gates.proofs.fit.have_other.Goals.{else-row-ne0-via-then-row-ne0+else-not-is_marked, else-row-ne0-via-else-row-ne0}

pub returns-then-not-is_marked : goal.returns-then-not-is_marked
returns-then-not-is_marked c =
    let rows = c.args.rows.now in
    let at = c.loop-row.row-index in
    (λ h. other_there rows at (row_at rows at) c.args.marks.now c.loop-row-test.true (row_is rows at c.loop-row-test.true) (λ none. omega (arith, none, c.if-row-ne0.true)) (sym c.is_marked.ensures ∙ c.if-not-is_marked.true), λ h. refl)

pub loop-row-preserved : goal.loop-row-preserved
loop-row-preserved c =
    let rows = c.args.rows.now in
    let at = c.loop-row.row-index in
    all_next (IsMarked c.args.marks.now) rows at (row_at rows at) c.loop-row-test.true (row_is rows at c.loop-row-test.true) c.loop-row.invariant
    (elim c.else-row-ne0.branch [
      | else-row-ne0-via-then-row-ne0+else-not-is_marked w ↦
          marked_all (row_at rows at) c.args.marks.now (inl (λ none. omega (arith, none, w.if-row-ne0.true))) (λ some. sym w.is_marked.ensures ∙ w.if-not-is_marked.false)
      | else-row-ne0-via-else-row-ne0 w ↦
          marked_all (row_at rows at) c.args.marks.now (inr (omega (arith, w.if-row-ne0.false))) (λ some. absurd (some (omega (arith, w.if-row-ne0.false))))
    ])
