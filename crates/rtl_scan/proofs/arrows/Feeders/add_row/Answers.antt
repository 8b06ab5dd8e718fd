use Rattle.std.proofs.lemmas.Result.{on_ok_weaker}
use Rattle.rtl_scan.proofs.Tables.{row_past, row_in}
use Rattle.rtl_scan.proofs.arrows.Feeders.add_row.Goals as goal

pub returns-then-place-table : goal.returns-then-place-table
returns-then-place-table c =
    row_past c.args.table.now c.args.row.now c.args.itself c.args.self.now c.if-place-table.true

pub returns : goal.returns
returns c =
    on_ok_weaker c.add_all.result
    (row_in c.args.table.now c.args.row.now c.args.itself c.args.self.now.process c.index-table-place.result c.if-place-table.false c.index-table-place.is c.deref.result.now c.deref.ensures.value c.args.self.now c.add_all.new.self)
    c.add_all.ensures
