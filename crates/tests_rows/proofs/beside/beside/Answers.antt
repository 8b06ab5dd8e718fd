use Rattle.std.proofs.Common.{◌≡◌, ◌∙◌, ◌<◌, ◌≤◌, length, ap, arith}
use Rattle.rtl_flat.specs.Flats.{Flat, flat, widths}
use Rattle.tests_netlists.proofs.Widths.{one_more, whole}
use Rattle.tests_rows.proofs.Widths.{are_stored, next_width, width}
use Rattle.tests_rows.proofs.beside.beside.Goals as goal

pub loop-number-preserved : goal.loop-number-preserved
loop-number-preserved c =
    let signals = c.args.design.now.signals.items in
    let n = c.loop-number.number in
    let inside : n < length signals = omega arith in
    one_more width signals c.loop-number.values.items c.push.new.self.items c.value.result n _ c.in_ok-push.ensures.items
    (c.value.ensures.width ∙ ap (λ (d : Flat). widths d n) c.requires) (next_width signals n inside) c.loop-number.invariant

pub new-requires : goal.new-requires
new-requires c =
    let signals = c.args.design.now.signals.items in
    let past : length signals ≤ c.loop-number.number = omega arith in
    are_stored signals c.loop-number.values.items (whole width signals c.loop-number.values.items c.loop-number.number past c.loop-number.invariant)
