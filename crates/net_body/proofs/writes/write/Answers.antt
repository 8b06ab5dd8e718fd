use Rattle.std.proofs.Common.{◌≡◌, ◌∙◌, ◌<◌, ◌||◌, cond, List, [], length, set, ap, sym, arith}
use Rattle.std.proofs.lemmas.List.{get_or_default}
use Rattle.rtl_bits.specs.declared.Bit.{Bit}
use Rattle.rtl_bits.specs.Bits.{is_one_at, replaced}
use Rattle.rtl_flat.specs.Value.{store}
use Rattle.event_model.specs.Writes.{Write}
use Rattle.net_model.specs.Block.{write_next, write_now}
use Rattle.net_body.specs.Marks.{is_over, maps}
use Rattle.net_body.proofs.Seen.{kept_mark, kept_number, next_is, now_is, seen_read}
use Rattle.net_body.proofs.writes.write.Goals as goal

pub with_next-requires : goal.with_next-requires
with_next-requires c =
    let marks = c.args.marks.now in
    let there = c.requires.there in
    let marked = c.requires.kept.marked in
    let within : c.args.signal.0 < length marks = omega (arith, there, marked) in
    let read = seen_read (λ mark. length mark.next) 0 marks c.args.signal.0 c.index-marks-place.result within c.index-marks-place.is in
    let wide = c.requires.kept.next c.args.signal.0 in
    let inside = c.requires.inside in
    omega (arith, read, wide, inside)

pub returns-then-delayed-clause-maps : goal.returns-then-delayed-clause-maps
returns-then-delayed-clause-maps c =
    let numbers = c.args.numbers.now in
    let marks = c.args.marks.now in
    let there = c.requires.there in
    let marked = c.requires.kept.marked in
    let within : c.args.signal.0 < length marks = omega (arith, there, marked) in
    let w : Write = record { signal = c.args.signal.0; at = c.args.at; bits = c.args.bits } in
    next_is numbers marks w c.index-marks-place.result c.with_next.result within c.index-marks-place.is
    c.with_next.ensures.next c.with_next.ensures.wrote c.with_next.ensures.late
    ∙ sym (ap (λ b. cond b (write_next (maps numbers marks) w) (write_now (maps numbers marks) w)) c.if-delayed.true)

pub returns-then-delayed-clause-kept : goal.returns-then-delayed-clause-kept
returns-then-delayed-clause-kept c =
    let marks = c.args.marks.now in
    let there = c.requires.there in
    let marked = c.requires.kept.marked in
    let within : c.args.signal.0 < length marks = omega (arith, there, marked) in
    kept_mark c.args.signals.now c.args.numbers.now marks c.args.signal.0 c.with_next.result c.requires.kept there
    (c.with_next.ensures.width ∙ seen_read (λ mark. length mark.next) 0 marks c.args.signal.0 c.index-marks-place.result within c.index-marks-place.is
    ∙ sym (c.requires.kept.next c.args.signal.0))

pub returns-else-delayed-clause-maps : goal.returns-else-delayed-clause-maps
returns-else-delayed-clause-maps c =
    let numbers = c.args.numbers.now in
    let marks = c.args.marks.now in
    let i = c.args.signal.0 in
    let there = c.requires.there in
    let marked = c.requires.kept.marked in
    let stored = c.requires.kept.stored in
    let within : i < length marks = omega (arith, there, marked) in
    let here : i < length numbers = omega (arith, there, stored) in
    let w : Write = record { signal = i; at = c.args.at; bits = c.args.bits } in
    let number_is : c.index-numbers-place.result ≡ store numbers i = c.index-numbers-place.is ∙ get_or_default numbers i c.index-numbers-place.result [] here in
    ap (λ (bits : List Bit). maps (set numbers i bits) (set marks i c.with_now.result)) (c.replace.ensures.bits ∙ ap (replaced c.args.at c.args.bits) number_is)
    ∙ now_is numbers marks w c.index-marks-place.result c.with_now.result within c.index-marks-place.is here
    c.with_now.ensures.next c.with_now.ensures.has_next
    (λ k. c.with_now.ensures.wrote k ∙ ap (λ n. is_over c.args.at n k || is_one_at c.index-marks-place.result.wrote k) c.width.ensures.exact)
    c.with_now.ensures.late
    ∙ sym (ap (λ b. cond b (write_next (maps numbers marks) w) (write_now (maps numbers marks) w)) c.if-delayed.false)

pub returns-else-delayed-clause-kept : goal.returns-else-delayed-clause-kept
returns-else-delayed-clause-kept c =
    let signals = c.args.signals.now in
    let numbers = c.args.numbers.now in
    let marks = c.args.marks.now in
    let i = c.args.signal.0 in
    let there = c.requires.there in
    let marked = c.requires.kept.marked in
    let stored = c.requires.kept.stored in
    let within : i < length marks = omega (arith, there, marked) in
    let here : i < length numbers = omega (arith, there, stored) in
    let number_is : c.index-numbers-place.result ≡ store numbers i = c.index-numbers-place.is ∙ get_or_default numbers i c.index-numbers-place.result [] here in
    kept_mark signals (set numbers i c.replace.result) marks i c.with_now.result
    (kept_number signals numbers marks i c.replace.result c.requires.kept there (c.replace.ensures.width ∙ ap length number_is ∙ sym (c.requires.kept.each i)))
    there
    (ap length c.with_now.ensures.next ∙ seen_read (λ mark. length mark.next) 0 marks i c.index-marks-place.result within c.index-marks-place.is
    ∙ sym (c.requires.kept.next i))
