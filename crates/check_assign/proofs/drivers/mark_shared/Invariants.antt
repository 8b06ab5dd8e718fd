use Rattle.std.proofs.Common.{◌≡◌, ℕ, Some, cond, drop}
use Rattle.std.specs.Ordering.{nat_cmp}
use Rattle.std.specs.BTreeMap.{get}
use Rattle.check_loops.specs.check_found.Masks.{mask_in}
use Rattle.check_assign.specs.Marks.{any_row, shares}
use Rattle.check_assign.proofs.drivers.mark_shared.Given as goal

abbrev pub invariant-loop-row : goal.invariant-loop-row
invariant-loop-row l =
    (s : ℕ) → cond (any_row (shares (mask_in l.lower)) (drop l.row-index l.rows) s) (Some l.spot) (get nat_cmp l.marks.spots s) ≡ cond (any_row (shares (mask_in l.lower)) l.rows s) (Some l.spot) (get nat_cmp l.fn.marks.spots s)
