use Rattle.std.proofs.Common.{◌≡◌, ◌+◌, ◌-◌, ◌++◌}
use Rattle.elab_parts.specs.Delays.{repeated}
use Rattle.elab_parts.proofs.delays.push_repeated.Given as goal

abbrev pub invariant-loop-index : goal.invariant-loop-index
invariant-loop-index l =
    l.delays.items ++ repeated l.spot.file (l.first + l.index) l.spot.at (l.count - l.index)
    ≡ l.initial.delays.items ++ repeated l.spot.file l.first l.spot.at l.count
