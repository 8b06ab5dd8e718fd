use Rattle.std.proofs.Common.{◌≡◌, ◌+◌, ◌-◌, ℕ, get_or, length}
use Rattle.check_found.proofs.masks.reach.Given as goal

abbrev pub invariant-loop-masks : goal.invariant-loop-masks
invariant-loop-masks l = (s : ℕ) → get_or l.masks.items s 0 ≡ get_or l.fn.masks.items s 0

abbrev pub decreases-loop-masks : goal.decreases-loop-masks
decreases-loop-masks l = (l.place + 1) - length l.masks.items
