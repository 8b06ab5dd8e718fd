use Rattle.std.proofs.Common.{◌≡◌, ◌++◌, take}
use Rattle.check_readings.specs.Readings.{comments}
use Rattle.check_readings.proofs.notes.push_comments.Given as goal

abbrev pub invariant-loop-region : goal.invariant-loop-region
invariant-loop-region l =
    l.found.items ≡ l.fn.found.items ++ comments (take l.region-index l.dropped)
