-- The search for the process that is one too many.
use Rattle.std.specs.Prelude.{ℕ, zero, suc, ◌+◌, ◌-◌, ◌<◌, ◌≤◌, drop, List, [], ◌∷◌, ◌++◌, length, Option, None, Some}
use Rattle.std.specs.List.{slice_get}
use Rattle.std.proofs.Common.{◌≡◌, ◌∙◌, ap, arith, get_or, refl, sym}
use Rattle.std.proofs.lemmas.List.{at_drop_more}
use Rattle.elab_walk.specs.declared.places.Seek.{Seek}
use Rattle.elab_walk.specs.declared.places.Seek.TheVariants.{Found, Left}
use Rattle.elab_walk.specs.Rooms.{place_of, sought, sought_on}

sought_behind : (n : ℕ) (xs ys : List ℕ) → sought n (xs ++ ys) ≡ sought_on (sought n xs) ys
sought_behind n [] ys = refl
sought_behind zero (x ∷ xs) ys = refl
sought_behind (suc n) (x ∷ xs) ys = sought_behind n xs ys

pub sought_append : (seek : Seek) (xs ys : List ℕ) → sought_on seek (xs ++ ys) ≡ sought_on (sought_on seek xs) ys
sought_append (Found at) xs ys = refl
sought_append (Left n) xs ys = sought_behind n xs ys

pub sought_found : (n at : ℕ) (xs : List ℕ) → slice_get xs n ≡ Some at → sought n xs ≡ Found at
sought_found n at [] h = absurd cc
sought_found zero at (x ∷ xs) h = cc
sought_found (suc n) at (x ∷ xs) h = sought_found n at xs h

pub short : (n : ℕ) (xs : List ℕ) → slice_get xs n ≡ None → length xs ≤ n
short n [] h = omega arith
short zero (x ∷ xs) h = absurd cc
short (suc n) (x ∷ xs) h = let rest : length xs ≤ n = short n xs h in omega arith

-- where no place is found, so many fewer may come
pub sought_left : (n : ℕ) (xs : List ℕ) → slice_get xs n ≡ None → sought n xs ≡ Left (n - length xs)
sought_left n [] h = let e : n ≡ n - 0 = omega arith in cc
sought_left zero (x ∷ xs) h = absurd cc
sought_left (suc n) (x ∷ xs) h =
    let e : n - length xs ≡ suc n - length (x ∷ xs) = omega arith in
    let f : sought n xs ≡ Left (n - length xs) = sought_left n xs h in
    cc

-- the place is that in the list
pub found_is : (n : ℕ) (xs : List ℕ) → place_of (sought n xs) ≡ slice_get xs n
found_is n [] = refl
found_is zero (x ∷ xs) = refl
found_is (suc n) (x ∷ xs) = found_is n xs

-- one more of a row
pub more_sought : {X : Type 0} (row : List X → List ℕ) (own : X → List ℕ) → ((x : X) (xs : List X) → row (x ∷ xs) ≡ own x ++ row xs) → (s s1 : Seek) (all : List X) (i : ℕ) (item : X) (r : Seek) → i < length all → item ≡ get_or all i item → s1 ≡ sought_on s (own item) → sought_on s (row (drop i all)) ≡ r → sought_on s1 (row (drop (i + 1) all)) ≡ r
more_sought row own more s s1 all i item r inside is there earlier =
    ap (λ d. sought_on d (row (drop (i + 1) all))) there
    ∙ sym (sought_append s (own item) (row (drop (i + 1) all)))
    ∙ sym (ap (sought_on s) (more item (drop (i + 1) all)))
    ∙ ap (λ x. sought_on s (row (x ∷ drop (i + 1) all))) is
    ∙ sym (at_drop_more (λ xs. sought_on s (row xs)) all i item inside)
    ∙ earlier
