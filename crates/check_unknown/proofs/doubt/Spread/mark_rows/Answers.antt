use Rattle.std.proofs.Common.{[], subst, List}
use Rattle.std.proofs.lemmas.List.{take_all}
use Rattle.std.proofs.lemmas.Bool.{false≢true}
use Rattle.check_chains.specs.rtl_scan.declared.bits.Row.{Row}
use Rattle.check_chains.specs.rtl_scan.Usage.{has_row_of}
use Rattle.check_unknown.specs.Spreading.{Marks}
use Rattle.check_unknown.proofs.Spreading.{marks_none, rows_more}
use Rattle.check_unknown.proofs.doubt.Spread.mark_rows.Goals as goal

pub loop-row-init : goal.loop-row-init
loop-row-init c = marks_none (has_row_of []) c.args.self.now (λ s there h. absurd (false≢true h))

pub loop-row-preserved : goal.loop-row-preserved
loop-row-preserved c =
    rows_more c.args.rows.now c.loop-row.row-index _ c.loop-row-test.true c.args.self.now c.loop-row.self c.mark.new.self c.loop-row.invariant c.in_ok-mark.ensures

pub returns : goal.returns
returns c =
    subst (λ (rows : List Row). Marks (has_row_of rows) c.args.self.now c.loop-row.self) (take_all c.loop-row.row-index c.args.rows.now c.loop-row-test.false) c.loop-row.invariant
