use Rattle.std.proofs.Common.{◌≡◌, ℕ, ◌||◌, drop}
use Rattle.check_found.specs.rtl_scan.Sets.{has, has_rows}
use Rattle.net_start.proofs.kept.add.Given as goal

abbrev pub invariant-loop-row : goal.invariant-loop-row
invariant-loop-row l =
    (s k : ℕ) → (has l.bits.masks s k || has_rows (drop l.row-index l.rows) s k) ≡ (has l.fn.bits.masks s k || has_rows l.rows s k)
