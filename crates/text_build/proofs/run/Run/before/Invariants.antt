use Rattle.std.proofs.Common.{◌-◌, ◌≤◌, ◌<◌, length, get_or, ℕ}
use Rattle.text_ground.specs.declared.dropped.Dropped.{Dropped}
use Rattle.text_build.proofs.run.Run.before.Given as goal

abbrev pub invariant-loop-low : goal.invariant-loop-low
invariant-loop-low l = record {
  ordered : l.low ≤ l.high;
  bound : l.high ≤ length l.self.regions.now;
  before : (k : ℕ) (d : Dropped) → k < l.low → (get_or l.self.regions.now k d).at < l.place;
}

abbrev pub decreases-loop-low : goal.decreases-loop-low
decreases-loop-low l = l.high - l.low
