-- Numbers in a row, and one more.
use Rattle.std.specs.List.{range_with_len}
use Rattle.std.proofs.Common.{ℕ, zero, suc, ◌≡◌, ◌∙◌, ◌+◌, [], ◌∷◌, ◌++◌, ap, add-one, arith}

from_one : (a n : ℕ) → range_with_len a (suc n) ≡ range_with_len a n ++ (a + n) ∷ []
from_one a zero =
    let same : a ≡ a + 0 = omega arith in
    ap (λ x. x ∷ []) same
from_one a (suc n) =
    let same : a + 1 + n ≡ a + suc n = omega arith in
    ap (λ xs. a ∷ xs) (from_one (a + 1) n) ∙ ap (λ x. a ∷ (range_with_len (a + 1) n ++ x ∷ [])) same

pub one_more : (n : ℕ) → range_with_len 0 (n + 1) ≡ range_with_len 0 n ++ n ∷ []
one_more n =
    let last : 0 + n ≡ n = omega arith in
    ap (range_with_len 0) (add-one n) ∙ from_one 0 n ∙ ap (λ x. range_with_len 0 n ++ x ∷ []) last
