use Rattle.std.proofs.Common.{◌≡◌, ◌+◌, ◌∷◌, [], ℕ, List, None, false, length, take, ap, subst, sym, arith}
use Rattle.std.proofs.lemmas.List.{length-append, length-take}
use Rattle.rtl_bits.specs.Bits.{is_one_at}
use Rattle.net_body.specs.declared.mark.Mark.{Mark}
use Rattle.net_body.specs.Marks.{HaveMarks, next_bit, view_at}
use Rattle.net_body.proofs.Making.{have_more, seen_more}
use Rattle.net_body.proofs.maps.clear_marks.Goals as goal

pub loop-number-preserved : goal.loop-number-preserved
loop-number-preserved c =
    let inv = c.loop-number.invariant in
    let marks = c.loop-number.marks.items in
    let m : Mark = c.clear.result in
    let numbers = c.args.numbers.now in
    let n = c.loop-number.number-index in
    let below = c.loop-number-test.true in
    let first = inv.0 in
    let pushed = c.in_ok-push.ensures.items in
    let long = length-append marks (m ∷ []) in
    let whole = ap length pushed in
    let front = length-take n numbers in
    let same : length marks ≡ length (take n numbers) = omega (arith, below, first, front) in (
      omega (arith, first, whole, long),
      subst (λ (ms : List Mark). (i k : ℕ) → view_at next_bit (λ j. None) ms i k ≡ None) (sym pushed) (seen_more next_bit None marks m inv.1 c.clear.ensures.next),
      subst (λ (ms : List Mark). (i k : ℕ) → view_at (λ mark. is_one_at mark.wrote) (λ j. false) ms i k ≡ false) (sym pushed) (seen_more (λ mark. is_one_at mark.wrote) false marks m inv.2 c.clear.ensures.wrote),
      subst (λ (ms : List Mark). (i k : ℕ) → view_at (λ mark. is_one_at mark.late) (λ j. false) ms i k ≡ false) (sym pushed) (seen_more (λ mark. is_one_at mark.late) false marks m inv.3 c.clear.ensures.late),
      subst (λ (ms : List Mark). HaveMarks (take (n + 1) numbers) ms) (sym pushed)
          (have_more numbers marks n c.number-item.result m below c.number-item.is same inv.4 c.clear.ensures.width),
    )
