use Rattle.std.proofs.Common.{◌-◌, ◌<◌, ◌≤◌, length, slice_index_or}
use Rattle.desk_places.proofs.lines.line_at.Given as goal

abbrev pub invariant-loop-high : goal.invariant-loop-high
invariant-loop-high l =
    record {
      ordered : l.low < l.high;
      within : l.high ≤ length l.starts;
      begun : slice_index_or l.starts l.low 0 ≤ l.at;
      last : l.high < length l.starts → l.at < slice_index_or l.starts l.high 0;
    }

abbrev pub decreases-loop-high : goal.decreases-loop-high
decreases-loop-high l = l.high - l.low
