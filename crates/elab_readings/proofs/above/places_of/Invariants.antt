use Rattle.std.proofs.Common.{◌≡◌, map, drop}
use Rattle.name_map.specs.Values.{no_values, values_of}
use Rattle.elab_uses.specs.elab_items.Declarations.{declaration}
use Rattle.elab_readings.specs.Readings.{with_places}
use Rattle.elab_readings.proofs.above.places_of.Given as goal

abbrev pub invariant-loop-entry : goal.invariant-loop-entry
invariant-loop-entry l =
    with_places (values_of l.places) (map declaration (drop l.entry-index l.entries))
    ≡ with_places no_values (map declaration l.entries)
