use Rattle.std.proofs.Common.{length, refl}
use Rattle.std.proofs.lemmas.Result.{IfOk-weaker}
use Rattle.rtl_flat.specs.Flats.{flat}
use Rattle.rtl_scan.proofs.Feeding.{arrows_fed}
use Rattle.rtl_scan.proofs.feeds.Accessed.arrows.Goals as goal

pub returns : goal.returns
returns c =
    let d = flat c.args.self.now.design.now in
    IfOk-weaker c.feeds.result _ _
    (λ rows fed. arrows_fed c.args.waits d.signals d.tasks (length d.tasks) c.in_ok-table.table.items c.deref.result.now refl c.deref.ensures.value c.in_ok-table.ensures rows.items fed)
    c.feeds.ensures
