use Rattle.std.proofs.Common.{◌∙◌, ◌∷◌, ◌++◌, [], sym, ap}
use Rattle.desk_build.proofs.Numbers.{one_more}
use Rattle.desk_build.proofs.front.all_numbers.Goals as goal

pub loop-number-preserved : goal.loop-number-preserved
loop-number-preserved c =
    c.in_ok-push.ensures.items
    ∙ ap (λ xs. xs ++ c.loop-number.number ∷ []) c.loop-number.invariant
    ∙ sym (one_more c.loop-number.number)
