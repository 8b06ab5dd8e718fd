use Rattle.std.proofs.Common.{◌≡◌, ℕ, ◌&&◌, not, drop}
use Rattle.rtl_scan.specs.Sets.{has, has_rows}
use Rattle.rtl_scan.proofs.scan.take_back.Given as goal

abbrev pub invariant-loop-row : goal.invariant-loop-row
invariant-loop-row l = (s k : ℕ) → (has l.done.masks s k && not (has_rows (drop l.row-index l.log) s k)) ≡ (has l.fn.done.masks s k && not (has_rows l.log s k))
