use Rattle.std.proofs.Common.{◌<◌, length, map, arith}
use Rattle.rtl_flat.specs.Process.{task}
use Rattle.event_write.proofs.rtl_scan_proofs.Processes.{length-tasks}
use Rattle.rtl_flat.specs.Flats.{flat}
use Rattle.event_tables.proofs.Given.{driven_more}
use Rattle.event_tables.proofs.drivers.drivers_of.Goals as goal

pub loop-number-preserved : goal.loop-number-preserved
loop-number-preserved c =
    let processes = c.args.design.now.processes.items in
    let same = length-tasks processes in
    let below = c.loop-number-test.true in
    let few : c.loop-number.number < length (map task processes) = omega arith in
    driven_more (flat c.args.design.now) c.loop-number.number c.loop-number.drivers.items c.drive.new.drivers.items few c.loop-number.invariant c.in_ok-drive.ensures
