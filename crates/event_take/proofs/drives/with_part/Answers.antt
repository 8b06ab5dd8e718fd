use Rattle.std.proofs.Common.{◌≡◌, ◌∙◌, length, Option, Some, ap, sym, subst, arith}
use Rattle.std.specs.Option.{option_map}
use Rattle.rtl_bits.specs.Bits.{selected}
use Rattle.rtl_flat.specs.Process.{selection}
use Rattle.rtl_flat.specs.Signs.{width_in}
use Rattle.rtl_flat.specs.Value.{store}
use Rattle.event_model.specs.Writes.{Span, count_of, span_of}
use Rattle.event_write.specs.Entries.{Entry}
use Rattle.event_write.specs.QueueState.{IsInside}
use Rattle.event_write.specs.Stored.{span}
use Rattle.event_take.proofs.Driving.{same_number, selected_inside}
use Rattle.event_take.proofs.drives.with_part.Goals as goal

pub replace-requires : goal.replace-requires
replace-requires c =
    let signals = c.args.signals.now in
    let i = c.args.part.now.signal.0 in
    let s = selection c.args.part.now.select in
    let v = store c.args.values.now in
    let bits = selected c.args.at (count_of (width_in signals) i s) c.args.bits in
    let is : span_of (width_in signals) v i s ≡ Some (span c.in-Some.span) = sym (ap (λ (e : Entry). e.span) c.entry_of-entry.ensures) ∙ ap (option_map span) c.in-Some.is in
    let inside = subst (λ (o : Option Span). IsInside signals i o bits) is (selected_inside signals v i s c.args.at c.args.bits c.requires.selected) in
    let far = inside.1 in
    let many = ap (λ (e : Entry). length e.bits) c.entry_of-entry.ensures in
    let here = ap (width_in signals) (same_number i c.args.net.0 (sym c.is_same-is_there.ensures ∙ c.if-not-is_there.false)) in
    let width = c.requires.width in
    omega (arith, far, many, here, width)
