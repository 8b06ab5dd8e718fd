use Rattle.std.proofs.Common.{◌≡◌, ◌++◌, map, drop}
use Rattle.std.specs.List.{flat_map}
use Rattle.rtl_tree.specs.TreeItem.{associated}
use Rattle.elab_readings.specs.Connections.{named_notes}
use Rattle.elab_readings.specs.Views.{ends}
use Rattle.elab_readings.proofs.connections.push_named.Given as goal

abbrev pub invariant-loop-argument : goal.invariant-loop-argument
invariant-loop-argument l =
    l.made.items ++ flat_map (named_notes (ends l.sides)) (map associated (drop l.argument-index l.arguments))
    ≡ l.initial.made.items ++ flat_map (named_notes (ends l.sides)) (map associated l.arguments)
