-- Lists that are split in two ways.
use Rattle.std.proofs.Common.{◌≡◌, ◌∙◌, List, [], ◌∷◌, ◌++◌, length, refl, ap, arith}

-- where as much stands before an element, it is the same element
pub same_split :
    {A : Type 0} (xs ys : List A) (x y : A) (us vs : List A) → xs ++ x ∷ us ≡ ys ++ y ∷ vs → length xs ≡ length ys →
    (xs ≡ ys) × (x ≡ y) × (us ≡ vs)
same_split [] [] x y us vs e long = (refl, cc, cc)
same_split [] (w ∷ ys) x y us vs e long = absurd (omega (arith, long))
same_split (z ∷ xs) [] x y us vs e long = absurd (omega (arith, long))
same_split (z ∷ xs) (w ∷ ys) x y us vs e long =
    let head : z ≡ w = cc in
    let tail : xs ++ x ∷ us ≡ ys ++ y ∷ vs = cc in
    let rest = same_split xs ys x y us vs tail (omega (arith, long)) in
    (ap (λ v. v ∷ xs) head ∙ ap (λ all. w ∷ all) rest.0, rest.1, rest.2)
