use Rattle.std.proofs.Common.{◌≤◌, length, drop}
use Rattle.rtl_prep.specs.Passes.{all_seen, closing}
use Rattle.rtl_prep.proofs.Closed.{Before}
use Rattle.rtl_prep.proofs.chains.chains.Given as goal

abbrev pub invariant-loop-place : goal.invariant-loop-place
invariant-loop-place l = record {
  inside : l.place ≤ length l.notices;
  before : Before (closing l.closing) (all_seen (drop l.place l.notices));
}

abbrev pub decreases-loop-place : goal.decreases-loop-place
decreases-loop-place l = l.place
