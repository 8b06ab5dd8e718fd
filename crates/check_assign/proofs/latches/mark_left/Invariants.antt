use Rattle.std.proofs.Common.{◌≡◌, ℕ, Some, cond, drop}
use Rattle.std.specs.Ordering.{nat_cmp}
use Rattle.std.specs.BTreeMap.{get}
use Rattle.check_loops.specs.rtl_scan.Sets.{mask_of}
use Rattle.check_assign.specs.Marks.{any_row, leaves}
use Rattle.check_assign.proofs.latches.mark_left.Given as goal

abbrev pub invariant-loop-row : goal.invariant-loop-row
invariant-loop-row l =
    (s : ℕ) → cond (any_row (leaves (mask_of l.sure.masks)) (drop l.row-index l.rows) s) (Some l.spot) (get nat_cmp l.marks.spots s) ≡ cond (any_row (leaves (mask_of l.sure.masks)) l.rows s) (Some l.spot) (get nat_cmp l.fn.marks.spots s)
