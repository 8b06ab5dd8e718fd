use Rattle.std.proofs.Common.{◌∙◌, ◌<◌, false, length, None, refl, arith}
use mathlib.Core.Path.{fun_ext}
use Rattle.rtl_bits.specs.Bits.{is_one_at}
use Rattle.net_body.specs.Marks.{next_bit, view_at}
use Rattle.net_body.proofs.Ending.{seen_past}
use Rattle.net_body.proofs.Places.{place_all, place_more}
use Rattle.net_body.proofs.Seen.{seen_read}
use Rattle.net_body.proofs.arms.restore_marks.Goals as goal

pub loop-place-preserved : goal.loop-place-preserved
loop-place-preserved c =
    let asides = c.args.asides.now in
    let marks = c.loop-place.marks in
    let place = c.loop-place.place in
    let a = c.index-asides-place.result in
    let n = c.fresh_mark.result in
    let test = c.loop-place-test.true in
    let all = c.requires in
    let same = c.loop-place.auto.marks in
    let there : place < length marks = omega (arith, test, all, same) in
    let inside : place < length asides = omega (arith, test) in (
      place_more next_bit (λ j. None) (view_at (λ aside. next_bit aside.mark) (λ j. None) asides) marks place n there
          (fun_ext c.fresh_mark.ensures.next ∙ seen_read (λ aside. next_bit aside.mark) (λ j. None) asides place a inside c.index-asides-place.is) c.loop-place.invariant.0,
      place_more (λ mark. is_one_at mark.wrote) (λ j. false) (λ i k. false) marks place n there (fun_ext c.fresh_mark.ensures.wrote) c.loop-place.invariant.1,
      place_more (λ mark. is_one_at mark.late) (λ j. false) (λ i k. false) marks place n there (fun_ext c.fresh_mark.ensures.late) c.loop-place.invariant.2,
      place_more (λ mark. length mark.next) 0 (view_at (λ aside. length aside.mark.next) 0 asides) marks place n there
          (c.fresh_mark.ensures.width ∙ seen_read (λ aside. length aside.mark.next) 0 asides place a inside c.index-asides-place.is) c.loop-place.invariant.3,
    )

pub returns-clause-next : goal.returns-clause-next
returns-clause-next c =
    let asides = c.args.asides.now in
    let marks = c.loop-place.marks in
    let test = c.loop-place-test.false in
    let all = c.requires in
    let same = c.loop-place.auto.marks in
    place_all next_bit (λ j. None) (view_at (λ aside. next_bit aside.mark) (λ j. None) asides) marks c.loop-place.place (omega (arith, test, all, same))
    (λ i past. seen_past (λ aside. next_bit aside.mark) (λ j. None) asides i (omega (arith, past, all, same))) c.loop-place.invariant.0

pub returns-clause-wrote : goal.returns-clause-wrote
returns-clause-wrote c =
    let test = c.loop-place-test.false in
    let all = c.requires in
    let same = c.loop-place.auto.marks in
    place_all (λ mark. is_one_at mark.wrote) (λ j. false) (λ i k. false) c.loop-place.marks c.loop-place.place (omega (arith, test, all, same)) (λ i past. refl) c.loop-place.invariant.1

pub returns-clause-late : goal.returns-clause-late
returns-clause-late c =
    let test = c.loop-place-test.false in
    let all = c.requires in
    let same = c.loop-place.auto.marks in
    place_all (λ mark. is_one_at mark.late) (λ j. false) (λ i k. false) c.loop-place.marks c.loop-place.place (omega (arith, test, all, same)) (λ i past. refl) c.loop-place.invariant.2

pub returns-clause-widths : goal.returns-clause-widths
returns-clause-widths c =
    let asides = c.args.asides.now in
    let test = c.loop-place-test.false in
    let all = c.requires in
    let same = c.loop-place.auto.marks in
    place_all (λ mark. length mark.next) 0 (view_at (λ aside. length aside.mark.next) 0 asides) c.loop-place.marks c.loop-place.place (omega (arith, test, all, same))
    (λ i past. seen_past (λ aside. length aside.mark.next) 0 asides i (omega (arith, past, all, same))) c.loop-place.invariant.3
