use Rattle.std.proofs.Common.{◌≡◌, ◌≤◌, map, length}
use Rattle.desk_steps.specs.Files.{joined}
use Rattle.desk_steps.specs.Lines.{lines}
use Rattle.desk_steps.specs.Names.{names_of}
use Rattle.desk_steps.specs.Steps.{step, steps_from}
use Rattle.desk_steps.proofs.file.read_lines.Given as goal

abbrev pub invariant-loop-rest : goal.invariant-loop-rest
invariant-loop-rest l =
    (joined (map step l.steps.items) (steps_from (names_of l.names) l.number (lines l.rest)) ≡ steps_from (names_of l.names) l.before (lines l.text))
    × (l.number ≤ 10000)

abbrev pub decreases-loop-rest : goal.decreases-loop-rest
decreases-loop-rest l = length l.rest
