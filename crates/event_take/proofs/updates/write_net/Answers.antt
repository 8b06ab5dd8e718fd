use Rattle.std.proofs.Common.{◌≡◌, ◌∙◌, List, Some, ap, sym, subst, arith}
use Rattle.std.specs.Option.{option_map}
use Rattle.rtl_flat.specs.declared.signal.Signal.{Signal}
use Rattle.rtl_flat.specs.Process.{selection}
use Rattle.rtl_flat.specs.Signs.{width_in}
use Rattle.rtl_flat.specs.Value.{store}
use Rattle.event_model.specs.Writes.{span_of}
use Rattle.event_write.specs.Stored.{span}
use Rattle.event_take.proofs.Driving.{Fits, span_fits}
use Rattle.event_take.proofs.Retallying.{HasBit, span_has}
use Rattle.event_take.proofs.updates.write_net.Goals as goal

pub given-bits-requires-clause-inside : goal.given-bits-requires-clause-inside
given-bits-requires-clause-inside c =
    let signals = c.args.fanout.now.design.now.signals.items in
    let i = c.args.part.now.signal.0 in
    let s = selection c.args.part.now.select in
    let is : span_of (width_in signals) (store c.deref-2.result.now) i s ≡ Some (span c.in-Some.span) =
    sym (ap (λ (ss : List Signal). span_of (width_in ss) (store c.deref-2.result.now) i s) c.deref.ensures.value)
    ∙ sym c.span_of-span.ensures ∙ ap (option_map span) c.in-Some.is in
    subst (Fits (width_in signals i)) is (span_fits signals (store c.deref-2.result.now) i s c.requires.selected)

pub given-bits-requires-clause-some : goal.given-bits-requires-clause-some
given-bits-requires-clause-some c =
    let signals = c.args.fanout.now.design.now.signals.items in
    let i = c.args.part.now.signal.0 in
    let s = selection c.args.part.now.select in
    let is : span_of (width_in signals) (store c.deref-2.result.now) i s ≡ Some (span c.in-Some.span) =
    sym (ap (λ (ss : List Signal). span_of (width_in ss) (store c.deref-2.result.now) i s) c.deref.ensures.value)
    ∙ sym c.span_of-span.ensures ∙ ap (option_map span) c.in-Some.is in
    subst HasBit is (span_has (width_in signals) (store c.deref-2.result.now) i s c.requires.not_empty)

pub write-requires-clause-inside : goal.write-requires-clause-inside
write-requires-clause-inside c =
    let signals = c.args.fanout.now.design.now.signals.items in
    let i = c.args.part.now.signal.0 in
    let s = selection c.args.part.now.select in
    let is : span_of (width_in signals) (store c.deref-2.result.now) i s ≡ Some (span c.in-Some.span) =
    sym (ap (λ (ss : List Signal). span_of (width_in ss) (store c.deref-2.result.now) i s) c.deref.ensures.value)
    ∙ sym c.span_of-span.ensures ∙ ap (option_map span) c.in-Some.is in
    let fits = subst (Fits (width_in signals i)) is (span_fits signals (store c.deref-2.result.now) i s c.requires.selected) in
    let width = c.given-bits.ensures.width in
    omega (arith, fits, width)
