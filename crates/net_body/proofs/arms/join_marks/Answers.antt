use Rattle.std.proofs.Common.{◌∙◌, ◌<◌, ◌||◌, ℕ, Bool, false, length, Option, None, ap, sym, arith}
use mathlib.Core.Path.{fun_ext}
use Rattle.rtl_bits.specs.declared.Bit.{Bit}
use Rattle.rtl_bits.specs.Bits.{is_one_at}
use Rattle.net_model.specs.Block.{arms_late, arms_write, joined_arms}
use Rattle.net_body.specs.Marks.{next_bit, view_at}
use Rattle.net_body.proofs.Ending.{seen_past}
use Rattle.net_body.proofs.Places.{place_all, place_more}
use Rattle.net_body.proofs.Seen.{seen_read}
use Rattle.net_body.proofs.Siding.{joined_late_past, joined_next_is, joined_next_past, joined_wrote_past, one_aside}
use Rattle.net_body.proofs.arms.join_marks.Goals as goal

pub joined_mark-requires : goal.joined_mark-requires
joined_mark-requires c =
    let asides = c.args.asides.now in
    let place = c.loop-place.place in
    let a = c.index-asides-place.result in
    let inside = c.loop-place-test.true in
    let one = seen_read (λ aside. length aside.sum) 0 asides place a inside c.index-asides-place.is in
    let two = seen_read (λ aside. length aside.mark.next) 0 asides place a inside c.index-asides-place.is in
    let sums = c.requires.same.sum place in
    let nexts = c.requires.same.next place in
    omega (arith, one, two, sums, nexts)

pub loop-place-preserved : goal.loop-place-preserved
loop-place-preserved c =
    let asides = c.args.asides.now in
    let marks = c.loop-place.marks in
    let place = c.loop-place.place in
    let a = c.index-asides-place.result in
    let n = c.joined_mark.result in
    let test = c.loop-place-test.true in
    let all = c.requires.asides in
    let same = c.loop-place.auto.marks in
    let there : place < length marks = omega (arith, test, all, same) in (
      λ m arms are bounded.
          place_more next_bit (λ j. None) (joined_arms m arms).next marks place n there
          (fun_ext (λ k. joined_next_is m arms place k a (next_bit n k) (one_aside m arms asides are place a test c.index-asides-place.is) bounded (c.joined_mark.ensures.next k)))
          (c.loop-place.invariant.0 m arms are bounded),
      λ m arms are.
          let at = one_aside m arms asides are place a test c.index-asides-place.is in
          place_more (λ mark. is_one_at mark.wrote) (λ j. false) (joined_arms m arms).wrote marks place n there
          (fun_ext (λ k. c.joined_mark.ensures.wrote k ∙ ap (λ b. b || is_one_at a.mark.wrote k) (at.arms_wrote k) ∙ ap (λ b. arms_write arms place k || b) (at.wrote k)))
          (c.loop-place.invariant.1 m arms are),
      λ m arms are.
          let at = one_aside m arms asides are place a test c.index-asides-place.is in
          place_more (λ mark. is_one_at mark.late) (λ j. false) (joined_arms m arms).late marks place n there
          (fun_ext (λ k. c.joined_mark.ensures.late k ∙ ap (λ b. b || is_one_at a.mark.late k) (at.arms_late k) ∙ ap (λ b. arms_late arms place k || b) (at.late k)))
          (c.loop-place.invariant.2 m arms are),
      place_more (λ mark. length mark.next) 0 (view_at (λ aside. length aside.mark.next) 0 asides) marks place n there
          (c.joined_mark.ensures.width ∙ seen_read (λ aside. length aside.mark.next) 0 asides place a test c.index-asides-place.is) c.loop-place.invariant.3,
    )

pub returns-clause-next : goal.returns-clause-next
returns-clause-next c = λ m arms are bounded i k.
    let asides = c.args.asides.now in
    let test = c.loop-place-test.false in
    let all = c.requires.asides in
    let same = c.loop-place.auto.marks in
    ap (λ (h : ℕ → Option Bit). h k)
    (place_all next_bit (λ j. None) (joined_arms m arms).next c.loop-place.marks c.loop-place.place (omega (arith, test, all, same))
    (λ j past. joined_next_past m arms asides are j (omega (arith, past, all, same))) (c.loop-place.invariant.0 m arms are bounded) i)

pub returns-clause-wrote : goal.returns-clause-wrote
returns-clause-wrote c = λ m arms are i k.
    let asides = c.args.asides.now in
    let test = c.loop-place-test.false in
    let all = c.requires.asides in
    let same = c.loop-place.auto.marks in
    ap (λ (h : ℕ → Bool). h k)
    (place_all (λ mark. is_one_at mark.wrote) (λ j. false) (joined_arms m arms).wrote c.loop-place.marks c.loop-place.place (omega (arith, test, all, same))
    (λ j past. joined_wrote_past m arms asides are j (omega (arith, past, all, same))) (c.loop-place.invariant.1 m arms are) i)

pub returns-clause-late : goal.returns-clause-late
returns-clause-late c = λ m arms are i k.
    let asides = c.args.asides.now in
    let test = c.loop-place-test.false in
    let all = c.requires.asides in
    let same = c.loop-place.auto.marks in
    ap (λ (h : ℕ → Bool). h k)
    (place_all (λ mark. is_one_at mark.late) (λ j. false) (joined_arms m arms).late c.loop-place.marks c.loop-place.place (omega (arith, test, all, same))
    (λ j past. joined_late_past m arms asides are j (omega (arith, past, all, same))) (c.loop-place.invariant.2 m arms are) i)

pub returns-clause-widths : goal.returns-clause-widths
returns-clause-widths c = λ i.
    let asides = c.args.asides.now in
    let test = c.loop-place-test.false in
    let all = c.requires.asides in
    let same = c.loop-place.auto.marks in
    c.requires.same.next i
    ∙ sym (place_all (λ mark. length mark.next) 0 (view_at (λ aside. length aside.mark.next) 0 asides) c.loop-place.marks c.loop-place.place (omega (arith, test, all, same))
    (λ j past. seen_past (λ aside. length aside.mark.next) 0 asides j (omega (arith, past, all, same))) c.loop-place.invariant.3 i)
