use Rattle.rtl_flat.specs.Flats.{flat}
use Rattle.event_tables.specs.Hearing.{AreHeard}
use Rattle.event_tables.proofs.listeners.listeners_of.Given as goal

abbrev pub invariant-loop-number : goal.invariant-loop-number
invariant-loop-number l = AreHeard (flat l.design) l.number l.listeners.items
