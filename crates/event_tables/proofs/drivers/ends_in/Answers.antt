use Rattle.std.proofs.Common.{refl, length, ◌-◌}
use Rattle.event_tables.proofs.Entering.{last_is}
use Rattle.event_tables.proofs.drivers.ends_in.Goals as goal

pub returns-in-Some : goal.returns-in-Some
returns-in-Some c =
    last_is c.args.row.now (length c.args.row.now - 1) c.in-Some.last.now c.args.process.0 refl c.in-Some.ensures.value
