use Rattle.std.proofs.Common.{take}
use Rattle.check_chains.specs.rtl_scan.Usage.{has_row_of}
use Rattle.check_unknown.specs.Spreading.{Marks}
use Rattle.check_unknown.proofs.doubt.Spread.mark_rows.Given as goal

abbrev pub invariant-loop-row : goal.invariant-loop-row
invariant-loop-row l = Marks (has_row_of (take l.row-index l.rows)) l.fn.self l.self
