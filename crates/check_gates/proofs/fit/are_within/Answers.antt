use Rattle.std.proofs.Common.{◌≡◌, true, arith}
use Rattle.std.proofs.lemmas.Bool.{false≢true}
use Rattle.check_chains.specs.rtl_scan.Sets.{has}
use Rattle.check_gates.proofs.Fitting.{all_next, lacks_none, lacks_some, row_at, row_is}
use Rattle.check_gates.proofs.fit.are_within.Goals as goal

pub returns-then-lacks-ne0 : goal.returns-then-lacks-ne0
returns-then-lacks-ne0 c =
    let rows = c.args.rows.now in
    let at = c.loop-row.row-index in
    (λ h. absurd (false≢true h), λ all. absurd (lacks_some rows at (row_at rows at) c.lacks.result (has c.args.bits.now.masks) c.loop-row-test.true (row_is rows at c.loop-row-test.true) c.lacks.ensures (λ none. omega (arith, none, c.if-lacks-ne0.true)) all))

pub loop-row-preserved : goal.loop-row-preserved
loop-row-preserved c =
    let rows = c.args.rows.now in
    let at = c.loop-row.row-index in
    all_next (λ s k. has c.args.bits.now.masks s k ≡ true) rows at (row_at rows at) c.loop-row-test.true (row_is rows at c.loop-row-test.true) c.loop-row.invariant
    (lacks_none (row_at rows at) c.lacks.result (has c.args.bits.now.masks) c.lacks.ensures (omega (arith, c.if-lacks-ne0.false)))
