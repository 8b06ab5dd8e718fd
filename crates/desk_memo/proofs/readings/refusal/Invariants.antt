use Rattle.std.proofs.Common.{◌≡◌, drop}
use Rattle.desk_memo.specs.Readings.{first_refusal}
use Rattle.desk_memo.specs.ShownReadings.{readings_in}
use Rattle.desk_memo.proofs.readings.refusal.Given as goal

abbrev pub invariant-loop-reading : goal.invariant-loop-reading
invariant-loop-reading g l = first_refusal (readings_in (drop l.reading-index l.readings)) ≡ first_refusal (readings_in l.readings)
