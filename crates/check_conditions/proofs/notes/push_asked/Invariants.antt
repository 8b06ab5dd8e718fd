use Rattle.std.proofs.Common.{◌≡◌, ◌++◌, map, take}
use Rattle.std.specs.List.{filter}
use Rattle.check_conditions.specs.Kept.{shown}
use Rattle.check_conditions.specs.ToolNotes.{hangs_in, tool_note}
use Rattle.check_conditions.proofs.notes.push_asked.Given as goal

abbrev pub invariant-loop-ask : goal.invariant-loop-ask
invariant-loop-ask l =
    l.notes.items ≡ l.fn.notes.items ++ map (tool_note l.number l.instance)
    (filter (hangs_in (shown l.file) l.instance.module) (map (λ ask. ask.now) (take l.ask-index l.ask-items)))
