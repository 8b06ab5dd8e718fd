use Rattle.std.proofs.Common.{ℕ, ◌≡◌, ◌||◌, drop}
use Rattle.rtl_scan.specs.Sets.{has_rows}
use Rattle.check_found.specs.Masks.{has_in}
use Rattle.check_found.proofs.masks.SignalMasks.insert_all.Given as goal

abbrev pub invariant-loop-row : goal.invariant-loop-row
invariant-loop-row l =
    (s k : ℕ) → (has_in l.self s k || has_rows (drop l.row-index l.rows) s k) ≡ (has_in l.fn.self s k || has_rows l.rows s k)
