use Rattle.std.proofs.Common.{◌∙◌, ◌+◌, ◌-◌, ◌++◌, ap, sym}
use Rattle.elab_parts.specs.Delays.{repeated}
use Rattle.elab_parts.proofs.Listing.{repeated_more}
use Rattle.elab_parts.proofs.delays.push_repeated.Goals as goal

pub loop-index-preserved : goal.loop-index-preserved
loop-index-preserved c =
    let file = c.args.spot.file in
    let at = c.args.spot.at in
    ap (λ zs. zs ++ repeated file (c.args.first + (c.loop-index.index + 1)) at (c.args.count - (c.loop-index.index + 1))) c.in_ok-push.ensures.items
    ∙ sym (repeated_more file c.args.first at c.loop-index.index c.args.count c.loop-index.delays.items c.loop-index-test.true)
    ∙ c.loop-index.invariant
