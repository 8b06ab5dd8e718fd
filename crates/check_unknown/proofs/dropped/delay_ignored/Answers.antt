use Rattle.std.proofs.Common.{◌∙◌, length, ap, arith}
use Rattle.std.proofs.lemmas.List.{take_all}
use Rattle.rtl_flat.specs.Flats.{parts}
use Rattle.check_unknown.specs.Lists.{delays_found}
use Rattle.check_unknown.proofs.Regions.{delays_all, delays_more}
use Rattle.check_unknown.proofs.dropped.delay_ignored.Goals as goal

pub loop-delay-preserved : goal.loop-delay-preserved
loop-delay-preserved c =
    let d = parts c.args.design.now in
    let seen = ap length c.deref-delay-items.ensures.value in
    let below = c.loop-delay-test.true in
    delays_more d.flat c.deref-delay-items.result.now d.delays c.deref-delay-items.ensures.value c.loop-delay.delay-index (omega (arith, seen, below)) _ c.loop-delay.found.items c.push_delay.new.found.items c.loop-delay.invariant c.in_ok-push_delay.ensures

pub returns : goal.returns
returns c =
    let d = parts c.args.design.now in
    let seen = ap length c.deref-delay-items.ensures.value in
    let past = c.loop-delay-test.false in
    delays_all d c.loop-delay.found.items (c.loop-delay.invariant ∙ ap (delays_found d.flat) (take_all c.loop-delay.delay-index d.delays (omega (arith, seen, past))))
