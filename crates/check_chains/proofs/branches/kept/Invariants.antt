use Rattle.std.proofs.Common.{◌≡◌, ◌||◌, ℕ, drop}
use Rattle.std.specs.Ordering.{nat_cmp}
use Rattle.std.specs.BTreeSet.{contains}
use Rattle.check_chains.specs.Branches.{has_kept}
use Rattle.check_chains.proofs.branches.kept.Given as goal

abbrev pub invariant-loop-row : goal.invariant-loop-row
invariant-loop-row l =
    (s : ℕ) → (contains nat_cmp l.found s || has_kept l.marks (drop l.row-index l.rows) s) ≡ has_kept l.marks l.rows s
