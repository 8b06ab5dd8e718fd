use Rattle.std.proofs.Common.{◌≡◌, ◌∙◌, ◌<◌, length, set, sym, ap, arith, true}
use Rattle.rtl_flat.specs.Value.{store}
use Rattle.event_model.specs.Writes.{put}
use Rattle.net_body.specs.Ends.{Ending, bits_after, changed_digits, ending, ending_after_one}
use Rattle.net_model.specs.Block.{Maps}
use Rattle.net_body.proofs.Ended.{beside_is, cleared_is, number_read}
use Rattle.net_body.proofs.Ending.{settled_one}
use Rattle.net_body.proofs.Seen.{kept_mark, kept_number, seen_read, store_set}
use Rattle.net_body.proofs.ends.end_one.Goals as goal

pub merged-ran-requires : goal.merged-ran-requires
merged-ran-requires c =
    let i = c.args.signal.0 in
    let below = c.requires.there in
    let stored = c.requires.kept.stored in
    let marked = c.requires.kept.marked in
    let within : i < length c.args.marks.now = omega (arith, below, marked) in
    let here : i < length c.args.numbers.now = omega (arith, below, stored) in
    seen_read (λ mark. length mark.next) 0 c.args.marks.now i c.index-marks-place.result within c.index-marks-place.is
    ∙ sym (c.requires.kept.next i) ∙ c.requires.kept.each i
    ∙ sym (ap length (number_read c.args.numbers.now i c.index-numbers-place.result here c.index-numbers-place.is))

pub returns-then-aside-clause-ends : goal.returns-then-aside-clause-ends
returns-then-aside-clause-ends c =
    let i = c.args.signal.0 in
    let numbers = c.args.numbers.now in
    let marks = c.args.marks.now in
    let after = c.args.after.now in
    let before = c.args.before.now in
    let below = c.requires.there in
    let stored = c.requires.kept.stored in
    let marked = c.requires.kept.marked in
    let within : i < length marks = omega (arith, below, marked) in
    let here : i < length numbers = omega (arith, below, stored) in
    let beside = c.requires.beside c.if-aside.true in
    let old_stored = beside.old.stored in
    let after_stored = beside.beside.stored in
    let old_here : i < length before = omega (arith, below, old_stored) in
    let after_here : i < length after = omega (arith, below, after_stored) in
    let e : Ending = ending numbers marks after in
    let run = bits_after e.maps i in
    let number_is = number_read numbers i c.index-numbers-place.result here c.index-numbers-place.is in
    let ran : c.merged-ran.result ≡ run = settled_one numbers marks i c.index-marks-place.result c.index-numbers-place.result c.merged-ran.result within c.index-marks-place.is number_is c.merged-ran.ensures.bits in
    let old_is = number_read before i c.index-before-place.result old_here c.index-before-place.is in
    let kept_is = number_read after i c.index-after-place.result after_here c.index-after-place.is in
    let beside_number : c.xor-then-aside.result ≡ changed_digits (store before i) run (store after i)
    = beside_is c.index-before-place.result run c.index-after-place.result c.merged-ran.result (store before i) c.xor.result c.xor-then-aside.result old_is ran c.xor.ensures.bits c.xor-then-aside.ensures.bits
    ∙ ap (changed_digits (store before i) run) kept_is in
    ap (λ (m : Maps). record { maps = m; after = store (set after i c.xor-then-aside.result) })
    (cleared_is numbers marks i c.index-before-place.result (store before i) c.clear.result here within old_is c.clear.ensures.next c.clear.ensures.wrote c.clear.ensures.late)
    ∙ ap (λ n. record { maps = (ending_after_one true (store before) e i).maps; after = n })
    (store_set after i c.xor-then-aside.result after_here ∙ ap (put (store after) i) beside_number)
    ∙ sym (ap (λ a. ending_after_one a (store before) e i) c.if-aside.true)

pub returns-then-aside-clause-kept : goal.returns-then-aside-clause-kept
returns-then-aside-clause-kept c =
    let signals = c.args.signals.now in
    let i = c.args.signal.0 in
    let numbers = c.args.numbers.now in
    let marks = c.args.marks.now in
    let below = c.requires.there in
    let marked = c.requires.kept.marked in
    let within : i < length marks = omega (arith, below, marked) in
    let beside = c.requires.beside c.if-aside.true in
    let old_stored = beside.old.stored in
    let old_here : i < length c.args.before.now = omega (arith, below, old_stored) in
    let old_is = number_read c.args.before.now i c.index-before-place.result old_here c.index-before-place.is in
    kept_mark signals (set numbers i c.index-before-place.result) marks i c.clear.result
    (kept_number signals numbers marks i c.index-before-place.result c.requires.kept below (ap length old_is ∙ sym (beside.old.each i)))
    below
    (c.clear.ensures.width ∙ seen_read (λ mark. length mark.next) 0 marks i c.index-marks-place.result within c.index-marks-place.is ∙ sym (c.requires.kept.next i))

pub returns-else-aside-clause-ends : goal.returns-else-aside-clause-ends
returns-else-aside-clause-ends c =
    let i = c.args.signal.0 in
    let numbers = c.args.numbers.now in
    let marks = c.args.marks.now in
    let before = c.args.before.now in
    let below = c.requires.there in
    let stored = c.requires.kept.stored in
    let marked = c.requires.kept.marked in
    let within : i < length marks = omega (arith, below, marked) in
    let here : i < length numbers = omega (arith, below, stored) in
    let e : Ending = ending numbers marks c.args.after.now in
    let number_is = number_read numbers i c.index-numbers-place.result here c.index-numbers-place.is in
    let ran : c.merged-ran.result ≡ bits_after e.maps i = settled_one numbers marks i c.index-marks-place.result c.index-numbers-place.result c.merged-ran.result within c.index-marks-place.is number_is c.merged-ran.ensures.bits in
    ap (λ (m : Maps). record { maps = m; after = store c.args.after.now })
    (cleared_is numbers marks i c.merged-ran.result (bits_after e.maps i) c.clear.result here within ran c.clear.ensures.next c.clear.ensures.wrote c.clear.ensures.late)
    ∙ sym (ap (λ a. ending_after_one a (store before) e i) c.if-aside.false)

pub returns-else-aside-clause-kept : goal.returns-else-aside-clause-kept
returns-else-aside-clause-kept c =
    let signals = c.args.signals.now in
    let i = c.args.signal.0 in
    let numbers = c.args.numbers.now in
    let marks = c.args.marks.now in
    let below = c.requires.there in
    let stored = c.requires.kept.stored in
    let marked = c.requires.kept.marked in
    let within : i < length marks = omega (arith, below, marked) in
    let here : i < length numbers = omega (arith, below, stored) in
    let number_is = number_read numbers i c.index-numbers-place.result here c.index-numbers-place.is in
    kept_mark signals (set numbers i c.merged-ran.result) marks i c.clear.result
    (kept_number signals numbers marks i c.merged-ran.result c.requires.kept below (c.merged-ran.ensures.width ∙ ap length number_is ∙ sym (c.requires.kept.each i)))
    below
    (c.clear.ensures.width ∙ seen_read (λ mark. length mark.next) 0 marks i c.index-marks-place.result within c.index-marks-place.is ∙ sym (c.requires.kept.next i))
