use Rattle.std.proofs.Common.{◌&&◌, not, false, get_or, take}
use Rattle.check_chains.specs.rtl_scan.Usage.{has_row_of}
use Rattle.check_unknown.specs.Spreading.{Marks}
use Rattle.check_unknown.proofs.doubt.Spread.mark_kept.Given as goal

abbrev pub invariant-loop-row : goal.invariant-loop-row
invariant-loop-row l =
    Marks (λ s. has_row_of (take l.row-index l.rows) s && not (get_or l.temporaries s false)) l.fn.self l.self
