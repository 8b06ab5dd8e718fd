use Rattle.std.proofs.Common.{◌≡◌, ◌∙◌, ◌<◌, ◌≤◌, ℕ, List, [], length, sym, ap, arith}
use Rattle.std.proofs.lemmas.List.{get_or_default}
use Rattle.rtl_bits.specs.declared.Bit.{Bit}
use Rattle.rtl_bits.specs.Inside.{length-tabulate}
use Rattle.rtl_flat.specs.Value.{store}
use Rattle.net_model.specs.Block.{arm_bits}
use Rattle.net_body.specs.declared.arms.Aside.{Aside}
use Rattle.net_body.specs.declared.mark.Mark.{Mark}
use Rattle.net_body.specs.Asides.{AreAside}
use Rattle.net_body.specs.Marks.{maps, view_at}
use Rattle.net_body.proofs.Ending.{seen_past}
use Rattle.net_body.proofs.Places.{place_all, place_more}
use Rattle.net_body.proofs.Seen.{seen_read}
use Rattle.net_body.proofs.Siding.{EachBelow, IsAt, all_aside, each_set, length_seen, new_one, over_maps}
use Rattle.net_body.proofs.arms.keep.Goals as goal

pub loop-place-preserved : goal.loop-place-preserved
loop-place-preserved c =
    let numbers = c.args.numbers.now in
    let marks = c.args.marks.now in
    let place = c.loop-place.place in
    let test = c.loop-place-test.true in
    let same = c.loop-place.auto.asides in
    let all = c.requires.marks in
    let count = c.requires.asides in
    let there : place < length c.loop-place.asides = omega (arith, test, same) in
    let marked : place < length marks = omega (arith, test, all, count) in
    let stored : place < length numbers = omega (arith, test, count) in (
      each_set (IsAt (maps numbers marks) []) c.loop-place.asides place c.new.result there
          (new_one numbers marks place c.index-numbers-place.result c.index-marks-place.result c.new.result marked
          (c.index-numbers-place.is ∙ get_or_default numbers place c.index-numbers-place.result [] stored) c.index-marks-place.is
          c.new.ensures.number c.new.ensures.mark c.new.ensures.sum c.new.ensures.wrote c.new.ensures.late)
          c.loop-place.invariant.0,
      place_more (λ aside. length aside.mark.next) 0 (view_at (λ mark. length mark.next) 0 marks) c.loop-place.asides place c.new.result there
          (ap (λ (x : Mark). length x.next) c.new.ensures.mark ∙ seen_read (λ mark. length mark.next) 0 marks place c.index-marks-place.result marked c.index-marks-place.is)
          c.loop-place.invariant.1,
    )

asides_are : (numbers : List (List Bit)) (marks : List Mark) (asides : List Aside) (place : ℕ) → length asides ≤ place → length asides ≡ length numbers → length marks ≡ length numbers → EachBelow (IsAt (maps numbers marks) []) place asides → AreAside (maps numbers marks) [] asides
asides_are numbers marks asides place all count same each =
    all_aside (maps numbers marks) [] asides (λ i a below is. each i a (omega (arith, below, all)) is)
    (over_maps numbers marks (length asides) (sym count) (same ∙ sym count))

pub returns-clause-asides : goal.returns-clause-asides
returns-clause-asides c =
    let test = c.loop-place-test.false in
    let same = c.loop-place.auto.asides in
    asides_are c.args.numbers.now c.args.marks.now c.loop-place.asides c.loop-place.place (omega (arith, test, same)) (same ∙ c.requires.asides) c.requires.marks c.loop-place.invariant.0

pub returns-clause-sums : goal.returns-clause-sums
returns-clause-sums c =
    let numbers = c.args.numbers.now in
    let marks = c.args.marks.now in
    let asides = c.loop-place.asides in
    let test = c.loop-place-test.false in
    let same = c.loop-place.auto.asides in
    let all = c.requires.marks in
    let count = c.requires.asides in
    let are = asides_are numbers marks asides c.loop-place.place (omega (arith, test, same)) (same ∙ count) all c.loop-place.invariant.0 in
    record {
      number = λ i. sym (ap length (are.now i)) ∙ length_seen (λ aside. aside.number) asides i;
      next = λ i. c.requires.widths i ∙ sym (place_all (λ aside. length aside.mark.next) 0 (view_at (λ mark. length mark.next) 0 marks) asides c.loop-place.place (omega (arith, test, same))
          (λ j past. seen_past (λ mark. length mark.next) 0 marks j (omega (arith, past, same, all, count))) c.loop-place.invariant.1 i);
      sum = λ i. sym (ap length (are.sum i) ∙ length-tabulate (length (store numbers i)) (arm_bits [] i)) ∙ length_seen (λ aside. aside.sum) asides i;
    }
