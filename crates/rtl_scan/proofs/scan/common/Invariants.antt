use Rattle.std.proofs.Common.{◌≡◌, ℕ, ◌||◌, ◌&&◌, drop}
use Rattle.rtl_scan.specs.Sets.{has, has_rows}
use Rattle.rtl_scan.proofs.scan.common.Given as goal

abbrev pub invariant-loop-row : goal.invariant-loop-row
invariant-loop-row l = (s k : ℕ) → (has_rows l.both.items s k || (has_rows (drop l.row-index l.kept) s k && has l.done.masks s k)) ≡ (has_rows l.kept s k && has l.done.masks s k)
