use Rattle.std.proofs.lemmas.Result.{IfOk-weaker}
use Rattle.rtl_flat.specs.Flats.{flat}
use Rattle.check_assign.proofs.Together.{together}
use Rattle.check_assign.proofs.lists.check.Goals as goal

pub returns : goal.returns
returns c =
    IfOk-weaker c.ranked.result _ _ (λ sorted is.
    together (flat c.args.scans.now.design.now) c.in_ok-assigned.assigned.items c.in_ok-driven.driven.items c.in_ok-held.held.items c.in_ok-first.first.items c.in_ok-found.found.items sorted.items c.in_ok-assigned.ensures c.in_ok-driven.ensures c.in_ok-held.ensures c.in_ok-first.ensures c.in_ok-found.ensures is)
    c.ranked.ensures
