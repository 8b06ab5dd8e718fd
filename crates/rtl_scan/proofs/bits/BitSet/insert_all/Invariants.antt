use Rattle.std.proofs.Common.{ℕ, ◌≡◌, ◌||◌, drop}
use Rattle.rtl_scan.specs.Sets.{has, has_rows}
use Rattle.rtl_scan.proofs.bits.BitSet.insert_all.Given as goal

abbrev pub invariant-loop-row : goal.invariant-loop-row
invariant-loop-row l =
    (s k : ℕ) → (has l.self.masks s k || has_rows (drop l.row-index l.rows) s k) ≡ (has l.fn.self.masks s k || has_rows l.rows s k)
