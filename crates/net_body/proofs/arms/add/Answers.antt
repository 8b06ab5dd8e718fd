use Rattle.std.proofs.Common.{◌≡◌, ◌∙◌, ◌<◌, ◌∷◌, ℕ, [], length, sym, ap, subst, arith}
use Rattle.std.proofs.lemmas.List.{get_or_default, get_or-set_other}
use Rattle.rtl_flat.specs.Value.{store}
use Rattle.net_body.specs.Marks.{maps}
use Rattle.net_body.proofs.Siding.{IsAt, IsOver, add_one, all_aside, each_set, one_aside, over_aside, over_more}
use Rattle.net_body.specs.declared.mark.Mark.{Mark}
use Rattle.net_body.proofs.Seen.{seen_kept, seen_read}
use Rattle.net_body.proofs.arms.add.Goals as goal

pub with-requires-clause-next : goal.with-requires-clause-next
with-requires-clause-next c =
    let numbers = c.args.numbers.now in
    let marks = c.args.marks.now in
    let place = c.loop-place.place in
    let test = c.loop-place-test.true in
    let same = c.loop-place.auto.asides in
    let all = c.requires.marks in
    let count = c.requires.asides in
    let marked : place < length marks = omega (arith, test, all, count) in
    let stored : place < length numbers = omega (arith, test, count) in
    let read = seen_read (λ mark. length mark.next) 0 marks place c.index-marks-place.result marked c.index-marks-place.is in
    let wide = c.requires.widths place in
    let number = ap length (c.index-numbers-place.is ∙ get_or_default numbers place c.index-numbers-place.result [] stored) in
    omega (arith, read, wide, number)

pub with-requires-clause-sum : goal.with-requires-clause-sum
with-requires-clause-sum c =
    let numbers = c.args.numbers.now in
    let old = c.args.asides.now in
    let place = c.loop-place.place in
    let test = c.loop-place-test.true in
    let same = c.loop-place.auto.asides in
    let count = c.requires.asides in
    let stored : place < length numbers = omega (arith, test, count) in
    let there : place < length old = omega (arith, test) in
    let a = c.index-asides-place.result in
    let read = seen_read (λ aside. length aside.sum) 0 old place a there (c.index-asides-place.is ∙ c.loop-place.invariant.1 place a (omega arith)) in
    let wide = c.requires.same.sum place in
    let number = ap length (c.index-numbers-place.is ∙ get_or_default numbers place c.index-numbers-place.result [] stored) in
    omega (arith, read, wide, number)

pub loop-place-preserved : goal.loop-place-preserved
loop-place-preserved c =
    let numbers = c.args.numbers.now in
    let marks = c.args.marks.now in
    let old = c.args.asides.now in
    let place = c.loop-place.place in
    let test = c.loop-place-test.true in
    let same = c.loop-place.auto.asides in
    let all = c.requires.marks in
    let count = c.requires.asides in
    let there : place < length c.loop-place.asides = omega (arith, test, same) in
    let before : place < length old = omega (arith, test) in
    let marked : place < length marks = omega (arith, test, all, count) in
    let stored : place < length numbers = omega (arith, test, count) in
    let a = c.index-asides-place.result in
    let a_is = c.index-asides-place.is ∙ c.loop-place.invariant.1 place a (omega arith) in
    let number_is : c.index-numbers-place.result ≡ store numbers place = c.index-numbers-place.is ∙ get_or_default numbers place c.index-numbers-place.result [] stored in
    let own = seen_read (λ aside. length aside.number) 0 old place a before a_is in
    let wide = c.requires.same.number place in (
      λ m arms are.
          let at = one_aside m arms old are place a before a_is in
          let here = ap length number_is in
          let then = ap length at.number in
          each_set (IsAt m (maps numbers marks ∷ arms)) c.loop-place.asides place c.with.result there
          (add_one m arms numbers marks place a c.with.result c.index-numbers-place.result c.index-marks-place.result at marked number_is c.index-marks-place.is
          (omega (arith, own, wide, here, then))
          c.with.ensures.number c.with.ensures.mark c.with.ensures.sum c.with.ensures.wrote c.with.ensures.late)
          (c.loop-place.invariant.0 m arms are),
      λ i x past. get_or-set_other c.loop-place.asides place i c.with.result x (λ e. omega (arith, past, e)) ∙ c.loop-place.invariant.1 i x (omega (arith, past)),
      λ i. ap (λ (g : ℕ → ℕ). g i) (seen_kept (λ aside. length aside.number) 0 c.loop-place.asides place c.with.result there
          (ap length c.with.ensures.number ∙ seen_read (λ aside. length aside.number) 0 c.loop-place.asides place a there c.index-asides-place.is)) ∙ c.loop-place.invariant.2 i,
      λ i. ap (λ (g : ℕ → ℕ). g i) (seen_kept (λ aside. length aside.mark.next) 0 c.loop-place.asides place c.with.result there
          (ap (λ (x : Mark). length x.next) c.with.ensures.mark ∙ seen_read (λ aside. length aside.mark.next) 0 c.loop-place.asides place a there c.index-asides-place.is)) ∙ c.loop-place.invariant.3 i,
      λ i. ap (λ (g : ℕ → ℕ). g i) (seen_kept (λ aside. length aside.sum) 0 c.loop-place.asides place c.with.result there
          (c.with.ensures.width ∙ seen_read (λ aside. length aside.sum) 0 c.loop-place.asides place a there c.index-asides-place.is)) ∙ c.loop-place.invariant.4 i,
    )

pub returns-clause-sums : goal.returns-clause-sums
returns-clause-sums c =
    record {
      number = λ i. c.requires.same.number i ∙ sym (c.loop-place.invariant.2 i);
      next = λ i. c.requires.same.next i ∙ sym (c.loop-place.invariant.3 i);
      sum = λ i. c.requires.same.sum i ∙ sym (c.loop-place.invariant.4 i);
    }

pub returns-clause-asides : goal.returns-clause-asides
returns-clause-asides c = λ m arms are.
    let numbers = c.args.numbers.now in
    let marks = c.args.marks.now in
    let test = c.loop-place-test.false in
    let same = c.loop-place.auto.asides in
    let all = c.requires.marks in
    let count = c.requires.asides in
    all_aside m (maps numbers marks ∷ arms) c.loop-place.asides
    (λ i a below is. c.loop-place.invariant.0 m arms are i a (omega (arith, below, test, same)) is)
    (subst (IsOver m (maps numbers marks ∷ arms)) (sym same) (over_more m arms numbers marks (length c.args.asides.now) (omega (arith, all, count)) (over_aside m arms c.args.asides.now are)))
