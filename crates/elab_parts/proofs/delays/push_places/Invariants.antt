use Rattle.std.proofs.Common.{◌≡◌, ◌++◌, map, drop}
use Rattle.elab_parts.specs.Delays.{delay_in}
use Rattle.elab_parts.proofs.delays.push_places.Given as goal

abbrev pub invariant-loop-at : goal.invariant-loop-at
invariant-loop-at l =
    l.delays.items ++ map (delay_in l.file l.process) (drop l.at-index l.places)
    ≡ l.initial.delays.items ++ map (delay_in l.file l.process) l.places
