use Rattle.std.proofs.Common.{◌≡◌, map, []}
use Rattle.std.specs.Option.{option_map}
use Rattle.desk_steps.specs.Cuts.{left, parts_behind}
use Rattle.desk_steps.specs.Lines.{parts}
use Rattle.desk_steps.specs.Marks.{AreMarks}
use Rattle.desk_steps.specs.Names.{names_of}
use Rattle.desk_steps.specs.Steps.{setting, settings_of}
use Rattle.desk_steps.proofs.line.read_settings.Given as goal

abbrev pub invariant-loop-rest : goal.invariant-loop-rest
invariant-loop-rest l =
    (settings_of (names_of l.names) (map setting l.settings.items) (parts_behind (option_map (λ text. text.now) l.rest)) ≡ settings_of (names_of l.names) [] (parts 32 l.fn.text))
    × AreMarks l.marks (map setting l.settings.items)

abbrev pub decreases-loop-rest : goal.decreases-loop-rest
decreases-loop-rest l = left l.rest
