use Rattle.std.proofs.Common.{arith}
use Rattle.rtl_flat.specs.Flats.{flat}
use Rattle.check_found.proofs.Sites.{next_below}
use Rattle.check_case.specs.Cases.{IsUnknownItem, unknown_item_at}
use Rattle.check_case.specs.Claims.{kinds_in}
use Rattle.check_case.proofs.Claimed.{process_there}
use Rattle.check_case.proofs.unknown.unknown_item.Goals as goal

pub loop-number-preserved : goal.loop-number-preserved
loop-number-preserved c =
    let d = flat c.args.scans.now.design.now in
    let n = c.loop-number.number in
    let (t, at) = process_there c.args.scans.now.design.now n (omega arith) in
    next_below IsUnknownItem (unknown_item_at d) kinds_in d n t c.loop-number.found.items c.push_unknown.new.found.items at c.loop-number.invariant (c.in_ok-push_unknown.ensures t at)
