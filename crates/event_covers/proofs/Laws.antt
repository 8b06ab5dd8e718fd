-- The laws of what may be, as they are stated.
use Rattle.rtl_flat.specs.Flats.{Flat}
use Rattle.event_covers.specs.Covers.{BodiesMay, ValuesMay}
use Rattle.event_covers.proofs.Bodies as bodies
use Rattle.event_covers.proofs.Values.{tree_may}

pub values_may : (d : Flat) → ValuesMay d
values_may d v u e have have' may lawful plain = tree_may d v u have have' may e lawful.widths plain

pub bodies_may : (d : Flat) → BodiesMay d
bodies_may d v u body have have' may lawful plain same free = bodies.bodies_may d v u have have' may body lawful plain same free
