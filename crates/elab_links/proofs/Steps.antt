-- Steps of loops over lists.
use Rattle.std.specs.Prelude.{ℕ, List, [], ◌∷◌, ◌++◌, map, Option}
use Rattle.std.proofs.Common.{◌≡◌, ◌∙◌, ◌<◌, ◌+◌, ap, refl, sym, drop, length, get_or}
use Rattle.std.proofs.lemmas.List.{append_assoc, drop_more}
use Rattle.elab_items.specs.elab_scope.Faults.{Refusal, after}
use Rattle.elab_items.proofs.elab_scope_proofs.Least.{after_append}

pub left_at : {A : Type 0} (xs : List A) (i : ℕ) (x : A) → i < length xs → x ≡ get_or xs i x → drop i xs ≡ x ∷ drop (i + 1) xs
left_at xs i x below is = drop_more xs i x below ∙ ap (λ y. y ∷ drop (i + 1) xs) (sym is)

pub pushed : {A B : Type 0} (f : A → B) (xs : List A) (x : A) (ys : List B) → map f (xs ++ x ∷ []) ++ ys ≡ map f xs ++ (f x ∷ ys)
pushed f [] x ys = refl
pushed f (first ∷ others) x ys = ap (λ rest. f first ∷ rest) (pushed f others x ys)

-- what is told after two lists of faults and the rest
pub two_told : (best middle next : Option Refusal) (first second rest : List Refusal) → middle ≡ after best first → next ≡ after middle second → after next rest ≡ after best ((first ++ second) ++ rest)
two_told best middle next first second rest one two =
    ap (λ told. after told rest) (two ∙ (ap (λ told. after told second) one ∙ sym (after_append best first second)))
    ∙ sym (after_append best (first ++ second) rest)

pub one_told : (best next : Option Refusal) (first rest : List Refusal) → next ≡ after best first → after next rest ≡ after best (first ++ rest)
one_told best next first rest one = ap (λ told. after told rest) one ∙ sym (after_append best first rest)

-- what is there after further ones, and then the rest
pub joined_on : {A : Type 0} (old new own rest : List A) → new ≡ old ++ own → new ++ rest ≡ old ++ (own ++ rest)
joined_on old new own rest is = ap (λ all. all ++ rest) is ∙ append_assoc old own rest
