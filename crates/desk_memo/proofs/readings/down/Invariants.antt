use Rattle.std.proofs.Common.{◌≡◌, ◌≤◌, ◌+◌, drop}
use Rattle.desk_memo.specs.ShownReadings.{down_count, flags_in}
use Rattle.desk_memo.proofs.readings.down.Given as goal

abbrev pub invariant-loop-reading : goal.invariant-loop-reading
invariant-loop-reading g l = record {
  total : l.count + down_count (flags_in (drop l.reading-index l.readings)) ≡ down_count (flags_in l.readings);
  bound : l.count ≤ l.reading-index;
}
