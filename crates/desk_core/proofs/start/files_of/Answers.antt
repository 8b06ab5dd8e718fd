use Rattle.std.proofs.Common.{◌≡◌, ◌+◌, ◌<◌, length, take, get_or, ap, sym, subst, arith}
use Rattle.desk_tables.specs.Tables.{kept_of}
use Rattle.desk_core.specs.Files.{AreFilesOf}
use Rattle.desk_core.proofs.FirstFiles.{files_more, next_file}
use Rattle.desk_core.proofs.start.files_of.Goals as goal

pub put-requires : goal.put-requires
put-requires c =
    let rows = c.args.tables.now.files.items in
    let row = c.row-item.result in
    let inside : c.loop-row.row-index < length rows = omega (arith, ap length c.deref-row-items.ensures.value) in
    let read : row ≡ get_or rows c.loop-row.row-index row = cc in
    (next_file (kept_of c.args.tables.now) c.loop-row.row-index row c.requires inside read).short

pub loop-row-preserved : goal.loop-row-preserved
loop-row-preserved c =
    let rows = c.args.tables.now.files.items in
    let row = c.row-item.result in
    let inside : c.loop-row.row-index < length rows = omega (arith, ap length c.deref-row-items.ensures.value) in
    let read : row ≡ get_or rows c.loop-row.row-index row = cc in
    let next = next_file (kept_of c.args.tables.now) c.loop-row.row-index row c.requires inside read in
    subst (AreFilesOf (take (c.loop-row.row-index + 1) rows)) (sym c.in_ok-put.ensures.ok)
    (files_more rows c.loop-row.row-index row c.loop-row.db.files inside read next c.loop-row.invariant)
