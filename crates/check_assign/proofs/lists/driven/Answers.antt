use Rattle.std.proofs.lemmas.Result.{IfOk-weaker}
use Rattle.check_assign.proofs.Together.{both}
use Rattle.check_assign.proofs.lists.driven.Goals as goal

pub returns : goal.returns
returns c =
    IfOk-weaker c.joined-2.result _ _ (λ all is.
    both _ _ _ _ all.items is (both _ _ _ _ c.in_ok-found.found.items c.in_ok-found.ensures c.in_ok-several.ensures.several c.in_ok-none.ensures) c.in_ok-looped.ensures)
    c.joined-2.ensures
