use Rattle.std.proofs.Common.{◌≡◌, ◌++◌, map, take}
use Rattle.check_readings.specs.Readings.{note_at}
use Rattle.check_readings.proofs.notes.push_notes.Given as goal

abbrev pub invariant-loop-note : goal.invariant-loop-note
invariant-loop-note l =
    l.found.items ≡ l.fn.found.items ++ map note_at (take l.note-index l.notes)
