use Rattle.std.proofs.Common.{◌∙◌, ◌<◌, ◌≤◌, length, arith}
use Rattle.rtl_flat.specs.Flats.{flat, widths}
use Rattle.tests_netlists.proofs.Widths.{as_places, next_wide, one_more, whole, wide}
use Rattle.tests_rows.proofs.starts.filled.Goals as goal

pub loop-place-preserved : goal.loop-place-preserved
loop-place-preserved c =
    let ws = widths (flat c.args.design.now) in
    let signals = c.args.signals.now in
    let n = c.loop-place.place in
    let inside : n < length signals = omega arith in
    one_more (wide ws) signals c.loop-place.values.items c.push.new.self.items c.filled.result n _ c.in_ok-push.ensures.items
    (c.filled.ensures.width ∙ c.in_ok-width.ensures.width) (next_wide ws signals n (record { 0 = 0 }) inside) c.loop-place.invariant

pub returns : goal.returns
returns c =
    let ws = widths (flat c.args.design.now) in
    let signals = c.args.signals.now in
    let past : length signals ≤ c.loop-place.place = omega arith in
    whole (wide ws) signals c.loop-place.values.items c.loop-place.place past c.loop-place.invariant ∙ as_places ws signals
