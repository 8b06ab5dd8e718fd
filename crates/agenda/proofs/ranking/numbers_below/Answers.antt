use Rattle.std.proofs.Common.{◌≡◌, ◌+◌, ◌∷◌, ◌++◌, [], suc, ap, sym, ◌∙◌, arith}
use Rattle.std.specs.List.{range_with_len}
use Rattle.agenda.proofs.Sorted.{range_more}
use Rattle.agenda.proofs.ranking.numbers_below.Goals as goal

pub loop-number-preserved : goal.loop-number-preserved
loop-number-preserved c =
    let k = c.loop-number.number in
    let next : suc k ≡ k + 1 = omega arith in
    let last : k ≡ 0 + k = omega arith in
    c.in_ok-push.ensures.items
    ∙ ap (λ numbers. numbers ++ k ∷ []) c.loop-number.invariant
    ∙ ap (λ n. range_with_len 0 k ++ n ∷ []) last
    ∙ sym (range_more k 0)
    ∙ ap (range_with_len 0) next
