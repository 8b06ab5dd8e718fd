use Rattle.std.proofs.Common.{sym, subst}
use Rattle.event_tables.specs.event_write.Stored.{AreStored}
use Rattle.event_queue.proofs.Freshness.{first_drivers_are, power_up_is}
use Rattle.event_queue.proofs.Starting.{first_stored}
use Rattle.event_queue.proofs.first_queue.power_up.Goals as goal

pub fresh-requires-clause-stored : goal.fresh-requires-clause-stored
fresh-requires-clause-stored c =
    subst (AreStored c.args.design.now.signals.items) (sym c.in_ok-values.ensures) (first_stored c.args.design.now.signals.items)

pub fresh-requires-clause-driven : goal.fresh-requires-clause-driven
fresh-requires-clause-driven c =
    first_drivers_are c.args.design.now c.in_ok-drivers.drivers.items c.in_ok-drivers.ensures

pub returns : goal.returns
returns c =
    power_up_is c.args.design.now c.in_ok-queue.queue c.wake_assignments.new.woken c.in_ok-values.values.items c.in_ok-drivers.drivers.items c.args.levels.items c.args.room c.in_ok-values.ensures c.in_ok-drivers.ensures c.in_ok-queue.ensures c.wake_assignments.ensures.size c.wake_assignments.ensures.levels c.wake_assignments.ensures.flags
