use Rattle.std.proofs.Common.{◌≤◌, length, drop}
use Rattle.rtl_prep.proofs.Stood.{Before}
use Rattle.rtl_prep.proofs.extents.extents.Given as goal

abbrev pub invariant-loop-place : goal.invariant-loop-place
invariant-loop-place l = record {
  inside : l.place ≤ length l.tokens;
  before : Before l.text l.ending.end l.ending.found.items (drop l.place l.tokens);
}

abbrev pub decreases-loop-place : goal.decreases-loop-place
decreases-loop-place l = l.place
