use Rattle.std.proofs.Common.{◌≤◌, ◌+◌, take, drop}
use Rattle.desk_memo.specs.ShownReadings.{AreMade, AreMadeKnown, down_count, flags_in}
use Rattle.desk_memo.proofs.readings.Readings.read_changed.Given as goal

abbrev pub invariant-loop-number : goal.invariant-loop-number
invariant-loop-number g l = record {
  made : AreMade (take l.number l.files) (take l.number (flags_in l.self.readings.items)) l.aside.readings.items l.aside.modules.items;
  known : AreMadeKnown l.aside.readings.items l.aside.conditions.items;
  counted : l.steps + down_count (drop l.number (flags_in l.self.readings.items)) ≤ l.fn.steps + down_count (flags_in l.self.readings.items);
}
