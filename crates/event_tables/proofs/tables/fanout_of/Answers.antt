use Rattle.std.proofs.Common.{ℕ, length, subst}
use Rattle.event_write.proofs.rtl_scan_proofs.Processes.{length-tasks}
use Rattle.rtl_flat.specs.Flats.{flat}
use Rattle.event_tables.specs.Hearing.{AreHeard}
use Rattle.event_tables.specs.Driving.{AreDriven}
use Rattle.event_tables.proofs.Hearing.{all_hear}
use Rattle.event_tables.proofs.Given.{all_drive}
use Rattle.event_tables.proofs.tables.fanout_of.Goals as goal

pub returns-clause-tables : goal.returns-clause-tables
returns-clause-tables c =
    let d = flat c.args.design.now in
    let listeners = c.in_ok-listeners.listeners.items in
    let drivers = c.in_ok-drivers.drivers.items in
    let count = length-tasks c.args.design.now.processes.items in
    let heard : AreHeard d (length d.tasks) listeners = subst (λ (n : ℕ). AreHeard d n listeners) count c.in_ok-listeners.ensures in
    let given : AreDriven d (length d.tasks) drivers = subst (λ (n : ℕ). AreDriven d n drivers) count c.in_ok-drivers.ensures in
    record {
      listened = heard.same_length;
      driven = given.same_length;
      inside = heard.inside;
      hear = all_hear d listeners heard;
      drivers_inside = given.below;
      drive = all_drive d drivers given;
    }
