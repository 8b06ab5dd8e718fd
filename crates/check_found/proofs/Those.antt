-- The elements of which a condition holds, of lists that are put together.
use Rattle.std.proofs.Common.{◌≡◌, ◌∙◌, Bool, true, List, [], ◌∷◌, ◌++◌, map, refl, sym, ap, subst, inl, inr}
use Rattle.std.specs.Prelude.{◌↔◌}
use Rattle.std.specs.List.{filter}
use Rattle.std.proofs.lemmas.Bool.{cases_Bool, both_ways, cond-true, cond-false}
use Rattle.rtl_rule.specs.Sites.{AreThose}

pub none_those : {A : Type 0} (P : A → Type 0) → AreThose P [] []
none_those P = refl

pub one_those : {A : Type 0} (P : A → Type 0) (x : A) → P x → AreThose P (x ∷ []) (x ∷ [])
one_those P x holds = inl (holds, [], refl, refl)

pub not_those : {A : Type 0} (P : A → Type 0) (x : A) → (P x → ⊥) → AreThose P (x ∷ []) []
not_those P x fails = inr (fails, refl)

-- those of two lists
pub join_those : {A : Type 0} (P : A → Type 0) (xs ys a b : List A) → AreThose P xs a → AreThose P ys b → AreThose P (xs ++ ys) (a ++ b)
join_those P [] ys a b first second = subst (λ c. AreThose P ys (c ++ b)) (sym first) second
join_those P (x ∷ xs) ys a b (inl (holds, rest, shown, others)) second =
    inl (holds, rest ++ b, ap (λ c. c ++ b) shown, join_those P xs ys rest b others second)
join_those P (x ∷ xs) ys a b (inr (fails, others)) second =
    inr (fails, join_those P xs ys a b others second)

-- of a test they are what a filter keeps, where the test decides the condition
pub those_by_test : {A : Type 0} (P : A → Type 0) (test : A → Bool) → ((x : A) → test x ≡ true ↔ P x) → (xs : List A) → AreThose P xs (filter test xs)
those_by_test P test is [] = refl
those_by_test P test is (x ∷ xs) =
    elim (cases_Bool (test x)) as (λ _. AreThose P (x ∷ xs) (filter test (x ∷ xs))) [
      | inl yes' ↦
          inl ((is x).0 yes', filter test xs, cond-true (test x) (x ∷ filter test xs) (filter test xs) yes', those_by_test P test is xs)
      | inr no' ↦
          inr (
            λ holds. both_ways (test x) no' ((is x).1 holds),
            subst (AreThose P xs) (sym (cond-false (test x) (x ∷ filter test xs) (filter test xs) no')) (those_by_test P test is xs),
          )
    ]

pub filter_those : {A : Type 0} (test : A → Bool) (xs : List A) → AreThose (λ x. test x ≡ true) xs (filter test xs)
filter_those test xs = those_by_test (λ x. test x ≡ true) test (λ x. (λ h. h, λ h. h)) xs

-- of a condition that means the same
pub those_as : {A : Type 0} (P Q : A → Type 0) → ((x : A) → P x ↔ Q x) → (xs a : List A) → AreThose P xs a → AreThose Q xs a
those_as P Q is [] a h = h
those_as P Q is (x ∷ xs) a (inl (holds, rest, shown, others)) =
    inl ((is x).0 holds, rest, shown, those_as P Q is xs rest others)
those_as P Q is (x ∷ xs) a (inr (fails, others)) =
    inr (λ holds. fails ((is x).1 holds), those_as P Q is xs a others)

-- a condition that holds of some of those alone
pub narrow_those : {A : Type 0} (P Q : A → Type 0) → ((x : A) → Q x → P x) → (xs a b : List A) → AreThose P xs a → AreThose Q a b → AreThose Q xs b
narrow_those P Q from [] a b h k = subst (λ c. AreThose Q c b) h k
narrow_those {A} P Q from (x ∷ xs) a b (inl (holds, rest, shown, others)) k =
    kept (λ c more. narrow_those P Q from xs rest c others more) (subst (λ c. AreThose Q c b) shown k)
  where
    kept : ((c : List A) → AreThose Q rest c → AreThose Q xs c) → AreThose Q (x ∷ rest) b → AreThose Q (x ∷ xs) b
    kept go (inl (holds', rest', shown', others')) = inl (holds', rest', shown', go rest' others')
    kept go (inr (fails', others')) = inr (fails', go b others')
narrow_those P Q from (x ∷ xs) a b (inr (fails, others)) k =
    inr (λ holds. fails (from x holds), narrow_those P Q from xs a b others k)

-- those of a list that a function makes
pub map_those : {A B : Type 0} (P : B → Type 0) (f : A → B) (xs a : List A) → AreThose (λ x. P (f x)) xs a → AreThose P (map f xs) (map f a)
map_those P f [] a h = ap (map f) h
map_those P f (x ∷ xs) a (inl (holds, rest, shown, others)) =
    inl (holds, map f rest, ap (map f) shown, map_those P f xs rest others)
map_those P f (x ∷ xs) a (inr (fails, others)) = inr (fails, map_those P f xs a others)

-- there is one list of them
pub same_those : {A : Type 0} (P : A → Type 0) (xs a b : List A) → AreThose P xs a → AreThose P xs b → a ≡ b
same_those P [] a b h k = h ∙ sym k
same_those P (x ∷ xs) a b (inl (holds, rest, shown, others)) (inl (holds', rest', shown', others')) =
    shown ∙ ap (λ c. x ∷ c) (same_those P xs rest rest' others others') ∙ sym shown'
same_those P (x ∷ xs) a b (inl (holds, rest, shown, others)) (inr (fails, others')) = absurd (fails holds)
same_those P (x ∷ xs) a b (inr (fails, others)) (inl (holds, rest, shown, others')) = absurd (fails holds)
same_those P (x ∷ xs) a b (inr (fails, others)) (inr (fails', others')) =
    same_those P xs a b others others'
