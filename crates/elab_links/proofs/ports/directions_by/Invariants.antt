use Rattle.std.proofs.Common.{◌≡◌, map, drop}
use Rattle.name_map.specs.Values.{values_of}
use Rattle.elab_items.specs.Declarations.{declaration}
use Rattle.elab_links.specs.Ports.{all_directed, no_directions}
use Rattle.elab_links.proofs.ports.directions_by.Given as goal

abbrev pub invariant-loop-entry : goal.invariant-loop-entry
invariant-loop-entry l =
    all_directed (values_of l.made) (map declaration (drop l.entry-index l.entries))
    ≡ all_directed no_directions (map declaration l.entries)
