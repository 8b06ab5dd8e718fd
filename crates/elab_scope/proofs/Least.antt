-- The fault that is told of faults one after the other.
use Rattle.std.specs.Prelude.{List, [], ◌∷◌, ◌++◌, Option}
use Rattle.std.proofs.Common.{◌≡◌, refl}
use Rattle.elab_scope.specs.Faults.{Refusal, keep, after}

pub after_append : (best : Option Refusal) (xs ys : List Refusal) → after best (xs ++ ys) ≡ after (after best xs) ys
after_append best [] ys = refl
after_append best (x ∷ xs) ys = after_append (keep best x) xs ys
