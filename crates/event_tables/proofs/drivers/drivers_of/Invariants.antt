use Rattle.rtl_flat.specs.Flats.{flat}
use Rattle.event_tables.specs.Driving.{AreDriven}
use Rattle.event_tables.proofs.drivers.drivers_of.Given as goal

abbrev pub invariant-loop-number : goal.invariant-loop-number
invariant-loop-number l = AreDriven (flat l.design) l.number l.drivers.items
