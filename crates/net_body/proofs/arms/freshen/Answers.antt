use Rattle.std.proofs.Common.{◌∙◌, ◌<◌, ℕ, false, cond, List, length, get_or, None, Some, refl, ap, sym, arith}
use mathlib.Core.Path.{fun_ext}
use Rattle.rtl_bits.specs.declared.Bit.{Bit}
use Rattle.rtl_bits.specs.declared.Bit.TheVariants.{X}
use Rattle.rtl_bits.specs.Bits.{is_one_at}
use Rattle.net_model.specs.Block.{fresh}
use Rattle.net_body.specs.Marks.{maps, next_bit}
use Rattle.net_body.proofs.Ending.{cleared_all, cleared_more}
use Rattle.net_body.proofs.Seen.{same_maps, seen_kept, seen_read}
use Rattle.net_body.proofs.arms.freshen.Goals as goal

pub loop-place-preserved : goal.loop-place-preserved
loop-place-preserved c =
    let marks = c.loop-place.marks in
    let place = c.loop-place.place in
    let test = c.loop-place-test.true in
    let same = c.loop-place.auto.marks in
    let m = c.index-marks-place.result in
    let n = c.fresh.result in
    let there : place < length marks = omega (arith, test, same) in (
      seen_kept next_bit (λ j. None) marks place n there
          (fun_ext (λ k. ap (λ (h : ℕ). cond (is_one_at h k) (Some (get_or n.next k X)) None) c.fresh.ensures.has_next ∙ ap (λ (bits : List Bit). cond (is_one_at m.has_next k) (Some (get_or bits k X)) None) c.fresh.ensures.next)
          ∙ seen_read next_bit (λ j. None) marks place m there c.index-marks-place.is)
          ∙ c.loop-place.invariant.0,
      cleared_more (λ mark. is_one_at mark.wrote) false marks place n there c.fresh.ensures.wrote c.loop-place.invariant.1,
      cleared_more (λ mark. is_one_at mark.late) false marks place n there c.fresh.ensures.late c.loop-place.invariant.2,
      λ i. ap (λ (g : ℕ → ℕ). g i) (seen_kept (λ mark. length mark.next) 0 marks place n there
          (ap length c.fresh.ensures.next ∙ seen_read (λ mark. length mark.next) 0 marks place m there c.index-marks-place.is))
          ∙ c.loop-place.invariant.3 i,
    )

pub returns-clause-maps : goal.returns-clause-maps
returns-clause-maps c =
    let numbers = c.args.numbers.now in
    let marks = c.loop-place.marks in
    let test = c.loop-place-test.false in
    let same = c.loop-place.auto.marks in
    same_maps (maps numbers marks) (fresh (maps numbers c.args.marks.now)) refl c.loop-place.invariant.0
    (fun_ext (λ i. fun_ext (cleared_all (λ mark. is_one_at mark.wrote) false marks c.loop-place.place (omega (arith, test, same)) c.loop-place.invariant.1 i)))
    (fun_ext (λ i. fun_ext (cleared_all (λ mark. is_one_at mark.late) false marks c.loop-place.place (omega (arith, test, same)) c.loop-place.invariant.2 i)))

pub returns-clause-widths : goal.returns-clause-widths
returns-clause-widths c = λ i. c.requires.widths i ∙ sym (c.loop-place.invariant.3 i)
