use Rattle.std.proofs.Common.{◌≡◌, true, arith}
use Rattle.std.proofs.lemmas.Bool.{false≢true}
use Rattle.check_chains.specs.rtl_scan.Sets.{has}
use Rattle.check_gates.proofs.Fitting.{all_next, shares_none, shares_some, row_at, row_is}
use Rattle.check_gates.proofs.fit.are_apart.Goals as goal

pub returns-then-shared-ne0 : goal.returns-then-shared-ne0
returns-then-shared-ne0 c =
    let rows = c.args.rows.now in
    let at = c.loop-row.row-index in
    (λ h. absurd (false≢true h), λ all. absurd (shares_some rows at (row_at rows at) c.shared.result (has c.args.bits.now.masks) c.loop-row-test.true (row_is rows at c.loop-row-test.true) c.shared.ensures (λ none. omega (arith, none, c.if-shared-ne0.true)) all))

pub loop-row-preserved : goal.loop-row-preserved
loop-row-preserved c =
    let rows = c.args.rows.now in
    let at = c.loop-row.row-index in
    all_next (λ s k. has c.args.bits.now.masks s k ≡ true → ⊥) rows at (row_at rows at) c.loop-row-test.true (row_is rows at c.loop-row-test.true) c.loop-row.invariant
    (shares_none (row_at rows at) c.shared.result (has c.args.bits.now.masks) c.shared.ensures (omega (arith, c.if-shared-ne0.false)))
