-- What holds of each element of a list.
use Rattle.std.proofs.Common.{◌≡◌, ◌+◌, ℕ, zero, suc, Bool, true, false, cond, List, [], ◌∷◌, ◌++◌, map, Some, refl, subst, arith}
use Rattle.std.specs.Prelude.{IsTrue}
use Rattle.std.specs.List.{All, enumerate_from, filter, flat_map, list_all, list_any, slice_get}
use Rattle.std.proofs.lemmas.Bool.{and_from, false≢true, or_left, or_right}
use Rattle.std.proofs.lemmas.List.Elements.{All-cons, All-head, All-nil, All-tail}

abbrev pub Each : {A : Type 0} → (A → Type 0) → List A → Type 0
Each P [] = Unit {0}
Each P (x ∷ xs) = P x × Each P xs

pub each_map : {A B : Type 0} (P : B → Type 0) (f : A → B) (xs : List A) → Each P (map f xs) → Each (λ x. P (f x)) xs
each_map P f [] h = tt
each_map P f (x ∷ xs) h = (h.0, each_map P f xs h.1)

pub each_all : {A : Type 0} (P : A → Type 0) (xs : List A) → Each P xs → All P xs
each_all P [] h = All-nil P
each_all P (x ∷ xs) h = All-cons P x xs h.0 (each_all P xs h.1)

pub each_from : {A : Type 0} (P : A → Type 0) (xs : List A) → All P xs → Each P xs
each_from P [] h = tt
each_from P (x ∷ xs) h = (All-head P x xs h, each_from P xs (All-tail P x xs h))

-- from two facts of each element
pub each_both : {A : Type 0} (P Q R : A → Type 0) → ((x : A) → P x → Q x → R x) → (xs : List A) → Each P xs → Each Q xs → Each R xs
each_both P Q R from [] h k = tt
each_both P Q R from (x ∷ xs) h k = (from x h.0 k.0, each_both P Q R from xs h.1 k.1)

pub each_more : {A : Type 0} (P Q : A → Type 0) → ((x : A) → P x → Q x) → (xs : List A) → Each P xs → Each Q xs
each_more P Q from [] h = tt
each_more P Q from (x ∷ xs) h = (from x h.0, each_more P Q from xs h.1)

pub each_false : {A : Type 0} (test : A → Bool) (xs : List A) → (list_any test xs ≡ true → ⊥) → Each (λ x. test x ≡ true → ⊥) xs
each_false test [] h = tt
each_false test (x ∷ xs) h =
    (λ is. h (or_left (test x) (list_any test xs) is), each_false test xs (λ is. h (or_right (test x) (list_any test xs) is)))

pub all_pass : {A : Type 0} (test : A → Bool) (xs : List A) → Each (λ x. IsTrue (test x)) xs → list_all test xs ≡ true
all_pass test [] h = refl
all_pass test (x ∷ xs) h = and_from (test x) _ h.0 (all_pass test xs h.1)

pub each_left : {A : Type 0} (P : A → Type 0) (xs ys : List A) → Each P (xs ++ ys) → Each P xs
each_left P [] ys h = tt
each_left P (x ∷ xs) ys h = (h.0, each_left P xs ys h.1)

pub each_right : {A : Type 0} (P : A → Type 0) (xs ys : List A) → Each P (xs ++ ys) → Each P ys
each_right P [] ys h = h
each_right P (x ∷ xs) ys h = each_right P xs ys h.1

pub each_flat : {A B : Type 0} (P : B → Type 0) (f : A → List B) (xs : List A) → Each P (flat_map f xs) → Each (λ x. Each P (f x)) xs
each_flat P f [] h = tt
each_flat P f (x ∷ xs) h =
    (each_left P (f x) (flat_map f xs) h, each_flat P f xs (each_right P (f x) (flat_map f xs) h))

pub each_numbered : {A : Type 0} (P : (ℕ × A) → Type 0) (n : ℕ) (xs : List A) → Each P (enumerate_from n xs) → (k m : ℕ) (x : A) → slice_get xs k ≡ Some x → m ≡ n + k → P (m, x)
each_numbered P n [] h k m x there e = absurd (cc)
each_numbered P n (y ∷ xs) h zero m x there e =
    let same : y ≡ x = cc in
    let number : n ≡ m = omega (arith, e) in
    subst (λ a. P (m, a)) same (subst (λ a. P (a, y)) number h.0)
each_numbered P n (y ∷ xs) h (suc k) m x there e =
    each_numbered P (n + 1) xs h.1 k m x there (omega (arith, e))

pub each_join : {A : Type 0} (P : A → Type 0) (xs ys : List A) → Each P xs → Each P ys → Each P (xs ++ ys)
each_join P [] ys h k = k
each_join P (x ∷ xs) ys h k = (h.0, each_join P xs ys h.1 k)

-- those that pass a test
kept_first : {A : Type 0} (P : A → Type 0) (x : A) (rest : List A) → P x → Each P rest → (b : Bool) → Each P (cond b (x ∷ rest) rest)
kept_first P x rest h k true = (h, k)
kept_first P x rest h k false = k

pub each_kept : {A : Type 0} (P : A → Type 0) (test : A → Bool) (xs : List A) → Each P xs → Each P (filter test xs)
each_kept P test [] h = tt
each_kept P test (x ∷ xs) h =
    kept_first P x (filter test xs) h.0 (each_kept P test xs h.1) (test x)

kept_rest : {A : Type 0} (P : A → Type 0) (x : A) (rest : List A) (b : Bool) → Each P (cond b (x ∷ rest) rest) → (b ≡ true → P x) × Each P rest
kept_rest P x rest true h = (λ e. h.0, h.1)
kept_rest P x rest false h = (λ e. absurd (false≢true e), h)

pub each_passing : {A : Type 0} (P : A → Type 0) (test : A → Bool) (xs : List A) → Each P (filter test xs) → Each (λ x. test x ≡ true → P x) xs
each_passing P test [] h = tt
each_passing P test (x ∷ xs) h =
    let split = kept_rest P x (filter test xs) (test x) h in (split.0, each_passing P test xs split.1)
