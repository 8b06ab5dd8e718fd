use Rattle.rtl_scan.proofs.Users.{row_noted}
use Rattle.rtl_scan.proofs.usages.note_row.Goals as goal

pub returns : goal.returns
returns c =
    row_noted c.args.usages.now c.args.row.now.signal.0 c.args.process c.args.found.now _ c.used_by.result c.has_some-writes.result c.keeps.result c.if-place-usages.false c.used_by.ensures c.has_some-writes.ensures c.keeps.ensures
