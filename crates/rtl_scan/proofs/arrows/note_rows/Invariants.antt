use Rattle.std.proofs.Common.{List, drop}
use Rattle.std.specs.Prelude.{Vec}
use Rattle.std.specs.declared.alloc.Global.{Global}
use Rattle.rtl_scan.specs.declared.arrows.Writer.{Writer}
use Rattle.rtl_scan.specs.Arrows.{Grows, IsNotedAt}
use Rattle.rtl_scan.proofs.arrows.note_rows.Given as goal

abbrev pub invariant-loop-row : goal.invariant-loop-row
invariant-loop-row l =
    (new : List (Vec Writer Global)) → Grows (IsNotedAt (drop l.row-index l.rows) l.process) l.table.items new → Grows (IsNotedAt l.fn.rows l.fn.process) l.fn.table.items new
