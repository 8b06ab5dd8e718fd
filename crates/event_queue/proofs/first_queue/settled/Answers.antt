use Rattle.std.proofs.Common.{ap, sym, subst}
use Rattle.std.proofs.lemmas.Result.{IfOk-weaker}
use Rattle.rtl_flat.specs.Value.{store}
use Rattle.event_model.specs.Queue.{settled_at}
use Rattle.rtl_flat.specs.Flats.{flat}
use Rattle.event_tables.specs.event_write.Stored.{AreStored}
use Rattle.event_queue.specs.First.{IsFirst, IsFresh, driver_in}
use Rattle.event_queue.proofs.Freshness.{now_drivers_are, settled_first}
use Rattle.event_queue.proofs.first_queue.settled.Goals as goal

pub fresh-requires-clause-stored : goal.fresh-requires-clause-stored
fresh-requires-clause-stored c =
    subst (AreStored c.args.design.now.signals.items) (sym c.in_ok-copy.ensures) c.requires.stored

pub fresh-requires-clause-driven : goal.fresh-requires-clause-driven
fresh-requires-clause-driven c =
    now_drivers_are c.args.design.now (store c.args.values.now) c.in_ok-drivers.drivers.items c.in_ok-drivers.ensures

pub returns : goal.returns
returns c =
    let design = c.args.design.now in
    let d = flat design in
    let v = store c.args.values.now in
    IfOk-weaker c.fresh.result (IsFresh d (store c.in_ok-copy.copy.items) (driver_in c.in_ok-drivers.drivers.items) c.args.levels.items c.args.room) (IsFirst d (settled_at d v) c.args.levels.items c.args.room)
    (λ m made. settled_first design m c.args.levels.items c.args.room v c.in_ok-copy.copy.items c.in_ok-drivers.drivers.items (ap store c.in_ok-copy.ensures) c.in_ok-drivers.ensures made)
    c.fresh.ensures
