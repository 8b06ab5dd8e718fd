use Rattle.std.proofs.Common.{◌∙◌}
use Rattle.rtl_scan.proofs.Tables.{rows_none, rows_more}
use Rattle.rtl_scan.proofs.arrows.Feeders.add_rows.Goals as goal

pub loop-row-preserved : goal.loop-row-preserved
loop-row-preserved c = (
  c.in_ok-add_row.ensures.same ∙ c.loop-row.invariant.0,
  λ new others.
      c.loop-row.invariant.1 new
      (rows_more c.args.table.now c.args.rows.now c.loop-row.row-index c.args.itself c.args.self.now.process c.loop-row.self.process _ c.loop-row-test.true c.loop-row.invariant.0 c.loop-row.self c.add_row.new.self c.in_ok-add_row.ensures new others),
)

pub returns : goal.returns
returns c =
    c.loop-row.invariant.1 c.loop-row.self (rows_none c.args.table.now c.args.rows.now c.loop-row.row-index c.args.itself c.args.self.now.process c.loop-row.self c.loop-row-test.false)
