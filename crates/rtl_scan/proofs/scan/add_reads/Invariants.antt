use Rattle.std.proofs.Common.{◌≡◌, ℕ, ◌||◌, ◌&&◌, not, drop}
use Rattle.rtl_scan.specs.Sets.{has, has_rows}
use Rattle.rtl_scan.proofs.scan.add_reads.Given as goal

abbrev pub invariant-loop-row : goal.invariant-loop-row
invariant-loop-row l = (s k : ℕ) → (has l.reads.masks s k || (not (has l.done.masks s k) && has_rows (drop l.row-index l.rows) s k)) ≡ (has l.fn.reads.masks s k || (not (has l.done.masks s k) && has_rows l.rows s k))
