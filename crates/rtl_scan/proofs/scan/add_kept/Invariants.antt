use Rattle.std.proofs.Common.{◌≡◌, ℕ, ◌||◌, ◌&&◌, not, drop}
use Rattle.rtl_scan.specs.Sets.{has, has_rows}
use Rattle.rtl_scan.proofs.scan.add_kept.Given as goal

abbrev pub invariant-loop-row : goal.invariant-loop-row
invariant-loop-row l = (s k : ℕ) → ((has l.done.masks s k || has_rows (drop l.row-index l.kept) s k) ≡ (has l.fn.done.masks s k || has_rows l.kept s k)) × ((has_rows l.log.items s k || (not (has l.done.masks s k) && has_rows (drop l.row-index l.kept) s k)) ≡ (has_rows l.fn.log.items s k || (not (has l.fn.done.masks s k) && has_rows l.kept s k)))
