use Rattle.std.proofs.Common.{take}
use Rattle.check_chains.specs.rtl_scan.Usage.{has_row_of}
use Rattle.check_unknown.specs.Spreading.{Notes}
use Rattle.check_unknown.proofs.doubt.note_rows.Given as goal

abbrev pub invariant-loop-row : goal.invariant-loop-row
invariant-loop-row l =
    Notes (has_row_of (take l.row-index l.rows)) l.p.0 l.fn.table.items l.table.items
