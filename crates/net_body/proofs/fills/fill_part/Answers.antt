use Rattle.std.proofs.Common.{◌≡◌, ◌∙◌, ◌<◌, ◌&&◌, cond, not, List, [], length, get_or, replicate, set, Some, ap, sym, arith}
use Rattle.rtl_bits.specs.declared.Bit.TheVariants.{X}
use Rattle.rtl_bits.specs.Bits.{is_one_at, tabulate}
use Rattle.std.proofs.lemmas.List.{get_or_default}
use Rattle.rtl_bits.specs.declared.Bit.{Bit}
use Rattle.rtl_flat.specs.Flows.{may_select}
use Rattle.rtl_flat.specs.Paths.{BitSet}
use Rattle.rtl_flat.specs.Process.{selection}
use Rattle.rtl_flat.specs.Signs.{width_in}
use Rattle.rtl_flat.specs.Value.{store}
use Rattle.net_model.specs.Block.{filled_case}
use Rattle.net_body.specs.Marks.{maps, next_bit}
use Rattle.net_body.proofs.May.{fill_next_is, fill_now_is, mask_within, may_mask}
use Rattle.net_body.proofs.Seen.{kept_mark, kept_number, seen_read}
use Rattle.net_body.proofs.fills.fill_part.Goals as goal

pub filled_next-requires : goal.filled_next-requires
filled_next-requires c = λ k there.
    let marks = c.args.marks.now in
    let i = c.args.part.now.signal.0 in
    let below = c.requires.there in
    let marked = c.requires.kept.marked in
    let within : i < length marks = omega (arith, below, marked) in
    let read = seen_read (λ mark. length mark.next) 0 marks i c.index-marks-place.result within c.index-marks-place.is in
    let wide = c.requires.kept.next i in
    let inside = mask_within (width_in c.args.design.now.signals.items) i (selection c.args.part.now.select) c.selected-row.result c.selected-row.ensures k there in
    omega (arith, read, wide, inside)

pub returns-then-delayed-clause-maps : goal.returns-then-delayed-clause-maps
returns-then-delayed-clause-maps c =
    let f = c.args.fill in
    let numbers = c.args.numbers.now in
    let marks = c.args.marks.now in
    let i = c.args.part.now.signal.0 in
    let ws = width_in c.args.design.now.signals.items in
    let s = selection c.args.part.now.select in
    let may : BitSet = may_select ws i s in
    let mask = c.selected-row.result.mask in
    let m = c.index-marks-place.result in
    let below = c.requires.there in
    let marked = c.requires.kept.marked in
    let within : i < length marks = omega (arith, below, marked) in
    fill_next_is numbers marks i mask f may (may_mask ws i s c.selected-row.result c.selected-row.ensures) m c.filled_next.result within c.index-marks-place.is
    (λ k. c.filled_next.ensures.next k ∙ ap (λ b. cond (is_one_at mask k) (Some b) (next_bit m k)) c.bit_of-bit.ensures)
    c.filled_next.ensures.wrote c.filled_next.ensures.late
    ∙ sym (ap (λ d. filled_case f (λ j k. not d && may j k) (λ j k. d && may j k) (maps numbers marks)) c.if-delayed.true)

pub returns-then-delayed-clause-kept : goal.returns-then-delayed-clause-kept
returns-then-delayed-clause-kept c =
    let marks = c.args.marks.now in
    let i = c.args.part.now.signal.0 in
    let below = c.requires.there in
    let marked = c.requires.kept.marked in
    let within : i < length marks = omega (arith, below, marked) in
    kept_mark c.args.design.now.signals.items c.args.numbers.now marks i c.filled_next.result c.requires.kept below
    (c.filled_next.ensures.width ∙ seen_read (λ mark. length mark.next) 0 marks i c.index-marks-place.result within c.index-marks-place.is ∙ sym (c.requires.kept.next i))

pub returns-else-delayed-clause-maps : goal.returns-else-delayed-clause-maps
returns-else-delayed-clause-maps c =
    let f = c.args.fill in
    let numbers = c.args.numbers.now in
    let marks = c.args.marks.now in
    let i = c.args.part.now.signal.0 in
    let ws = width_in c.args.design.now.signals.items in
    let s = selection c.args.part.now.select in
    let may : BitSet = may_select ws i s in
    let mask = c.selected-row.result.mask in
    let m = c.index-marks-place.result in
    let below = c.requires.there in
    let marked = c.requires.kept.marked in
    let stored = c.requires.kept.stored in
    let within : i < length marks = omega (arith, below, marked) in
    let here : i < length numbers = omega (arith, below, stored) in
    let filled = c.filled-filled.result in
    let number_is : c.index-numbers-place.result ≡ store numbers i = c.index-numbers-place.is ∙ get_or_default numbers i c.index-numbers-place.result [] here in
    fill_now_is numbers marks i mask f may (may_mask ws i s c.selected-row.result c.selected-row.ensures) m c.filled_now.result within c.index-marks-place.is
    filled c.merged.result here
    (c.filled-filled.ensures.bits ∙ ap (λ n. replicate n c.bit_of-bit.result) (c.width.ensures.exact ∙ ap length number_is) ∙ ap (replicate (length (store numbers i))) c.bit_of-bit.ensures)
    (c.merged.ensures.bits ∙ ap (λ (bits : List Bit). tabulate (length bits) (λ k. cond (is_one_at mask k) (get_or filled k X) (get_or bits k X))) number_is)
    c.filled_now.ensures.next c.filled_now.ensures.has_next c.filled_now.ensures.wrote c.filled_now.ensures.late
    ∙ sym (ap (λ d. filled_case f (λ j k. not d && may j k) (λ j k. d && may j k) (maps numbers marks)) c.if-delayed.false)

pub returns-else-delayed-clause-kept : goal.returns-else-delayed-clause-kept
returns-else-delayed-clause-kept c =
    let signals = c.args.design.now.signals.items in
    let numbers = c.args.numbers.now in
    let marks = c.args.marks.now in
    let i = c.args.part.now.signal.0 in
    let below = c.requires.there in
    let marked = c.requires.kept.marked in
    let stored = c.requires.kept.stored in
    let within : i < length marks = omega (arith, below, marked) in
    let here : i < length numbers = omega (arith, below, stored) in
    let number_is : c.index-numbers-place.result ≡ store numbers i = c.index-numbers-place.is ∙ get_or_default numbers i c.index-numbers-place.result [] here in
    kept_mark signals (set numbers i c.merged.result) marks i c.filled_now.result
    (kept_number signals numbers marks i c.merged.result c.requires.kept below (c.merged.ensures.width ∙ ap length number_is ∙ sym (c.requires.kept.each i)))
    below
    (ap length c.filled_now.ensures.next ∙ seen_read (λ mark. length mark.next) 0 marks i c.index-marks-place.result within c.index-marks-place.is
    ∙ sym (c.requires.kept.next i))
