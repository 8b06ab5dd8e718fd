use Rattle.std.proofs.Common.{List, drop}
use Rattle.rtl_scan.specs.declared.usages.Usage.{Usage}
use Rattle.rtl_scan.specs.Usage.{AreNoted, has_row_of}
use Rattle.rtl_scan.proofs.usages.note_rows.Given as goal

abbrev pub invariant-loop-row : goal.invariant-loop-row
invariant-loop-row l =
    (new : List Usage) → AreNoted (has_row_of (drop l.row-index l.rows)) l.process l.found l.usages new → AreNoted (has_row_of l.fn.rows) l.fn.process l.fn.found l.fn.usages new
