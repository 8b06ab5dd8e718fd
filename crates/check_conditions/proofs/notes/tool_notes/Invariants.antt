use Rattle.std.proofs.Common.{◌≡◌, ◌++◌, map, drop}
use Rattle.check_conditions.specs.Kept.{shown}
use Rattle.check_conditions.specs.ToolNotes.{notes_from, tool_notes}
use Rattle.check_conditions.proofs.notes.tool_notes.Given as goal

abbrev pub invariant-loop-number : goal.invariant-loop-number
invariant-loop-number l =
    l.notes.items ++ notes_from (map shown l.files) l.number (drop l.number l.instances)
    ≡ tool_notes (map shown l.files) l.instances
