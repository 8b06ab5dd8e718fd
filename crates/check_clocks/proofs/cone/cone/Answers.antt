use Rattle.rtl_flat.specs.Flats.{flat}
use Rattle.check_clocks.proofs.Coned.{cone_each}
use Rattle.check_clocks.proofs.cone.cone.Goals as goal

pub returns-clause-each : goal.returns-clause-each
returns-clause-each c =
    cone_each (flat c.args.scans.now.design.now) c.in_ok-marks.marks.items c.in_ok-marks.ensures
