use Rattle.std.proofs.Common.{◌≡◌, take}
use Rattle.desk_memo.specs.Readings.{file_at}
use Rattle.desk_memo.specs.ShownReadings.{readings_of}
use Rattle.desk_memo.specs.Shown.{all_used, used_among}
use Rattle.desk_memo.proofs.used.used_files.Given as goal

abbrev pub invariant-loop-number : goal.invariant-loop-number
invariant-loop-number g l =
    all_used l.used.items ≡ used_among (file_at (readings_of l.readings)) (take l.number-index l.numbers)
