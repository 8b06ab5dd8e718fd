-- It serves inner contracts and proofs; no answer of the program is stated by it.
-- Where a simulator begins.
use Rattle.rtl_flat.specs.declared.design.Design.{Design}
use Rattle.rtl_flat.specs.Value.{store}
use Rattle.event_model.specs.Queue.{State, power_up, settled_at}
use Rattle.rtl_flat.specs.Flats.{Flat}
use Rattle.event_tables.specs.event_write.Stored.{AreStored}
use Rattle.event_queue.specs.declared.start.Start.{Start}
use Rattle.event_queue.specs.declared.start.Start.TheVariants.{PowerUp, Values}

-- whether there is a value of its width for each signal
abbrev pub IsStart : Design → Start → Type 0
IsStart design PowerUp = Unit {0}
IsStart design (Values values) = AreStored design.signals.items values.items

abbrev pub start_of : Flat → Start → State
start_of d PowerUp = power_up d
start_of d (Values values) = settled_at d (store values.items)
